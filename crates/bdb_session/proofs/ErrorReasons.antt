-- The lines of a certificate tell no error.
use Rattle.std.proofs.Common.{◌≡◌, ◌∙◌, ℕ, ◌+◌, Bool, true, false, ◌&&◌, List, [], ◌∷◌, ◌++◌, drop, filter, length, map, Option, Some, None, refl}
use Rattle.std.specs.Prelude.{codes, find}
use Rattle.std.specs.List.{flat_map, list_all}
use Rattle.std.proofs.lemmas.Bool.{and_from, and_parts, cond_both}
use Rattle.std.proofs.lemmas.List.Folds.{list_all-map}
use Rattle.bdb_base.specs.declared.kinds.Catalog.{Catalog}
use Rattle.bdb_base.specs.declared.kinds.Sign.{Sign}
use Rattle.bdb_base.specs.declared.kinds.Sign.TheVariants.{Plus, Minus}
use Rattle.bdb_base.specs.declared.kinds.Stmt.{Stmt}
use Rattle.bdb_base.specs.declared.tuple.Tuple.{Tuple}
use Rattle.bdb_base.specs.Bases.{IsCatalog}
use Rattle.bdb_base.specs.Clash.{clash}
use Rattle.bdb_base.specs.Order.{tuple_cmp}
use Rattle.bdb_base.specs.Same.{same_path}
use Rattle.bdb_base.specs.Worlds.{explicit, least_clash}
use Rattle.bdb_base.specs.Texts.{line}
use Rattle.bdb_base.proofs.ListLemmas.{list_all-filter, list_all_weaker}
use Rattle.bdb_reasons.specs.WhyReplies.{other_text, own_text, reason_text, signed_at_level, why_lines, why_reply}
use Rattle.bdb_render.specs.Replies.{count_reply, path_text, signed_text}
use Rattle.bdb_why.specs.Certificates.{considered, is_held, is_rival_near, other_or, rivals, ruled_of, why_of}
use Rattle.bdb_why.specs.Grounds.{ground_by, ground_from, ground_of, is_found}
use Rattle.bdb_why.specs.declared.kinds.Ground.{Ground}
use Rattle.bdb_why.specs.declared.kinds.Ground.TheVariants.{Found, Blocked, Nowhere}
use Rattle.bdb_why.specs.declared.kinds.Ruled.{Ruled}
use Rattle.bdb_why.specs.declared.kinds.Why.{Why}
use Rattle.bdb_why.specs.declared.kinds.Why.TheVariants.{Stated, Other, Absent}
use Rattle.bdb_session.proofs.ErrorBases.{found_passes, have_flat_tuples, if_there, is_flat_tuple, set_all_pass}
use Rattle.bdb_session.proofs.ErrorReplies.{count_quiet, path_flat, signed_flat}
use Rattle.bdb_session.proofs.ErrorTexts.{IsFlat, IsQuiet, flat_append, is_quiet, quiet_append, quiet_from, quiet_lines}

-- ---- the tuples of a certificate

abbrev is_flat_ground : Ground → Bool
is_flat_ground (Found level) = true
is_flat_ground (Blocked level by) = is_flat_tuple by.tuple
is_flat_ground Nowhere = true

abbrev is_flat_ruled : Ruled → Bool
is_flat_ruled r = is_flat_tuple r.tuple && is_flat_ground r.reason

abbrev is_flat_why : Why → Bool
is_flat_why (Stated reason) = is_flat_ground reason
is_flat_why (Other r) = is_flat_ruled r
is_flat_why (Absent own others) = is_flat_ground own && list_all is_flat_ruled others

abbrev is_flat_stmt : Stmt → Bool
is_flat_stmt x = is_flat_tuple x.tuple

by_flat : (here : Bool) (o : Option Stmt) (level : ℕ) (rest : Ground) → if_there is_flat_stmt o ≡ true → is_flat_ground rest ≡ true → is_flat_ground (ground_by here o level rest) ≡ true
by_flat true o level rest h g = refl
by_flat false (Some x) level rest h g = h
by_flat false None level rest h g = g

module _ (keys : ℕ → ℕ) (stmts : List Stmt) (all : have_flat_tuples stmts ≡ true) where
  least_flat : (w : List ℕ) (t : Tuple) (s : Sign) → if_there is_flat_stmt (least_clash keys stmts w t s) ≡ true
  least_flat w t s = found_passes (λ x. same_path x.path w && clash keys t s x.tuple x.sign) is_flat_stmt stmts all

  from_flat : (level : ℕ) (w : List ℕ) (t : Tuple) (s : Sign) → is_flat_ground (ground_from keys stmts level w t s) ≡ true
  from_flat level [] t s = by_flat (explicit stmts [] t s) (least_clash keys stmts [] t s) level Nowhere (least_flat [] t s) refl
  from_flat level (i ∷ w) t s =
      by_flat (explicit stmts (i ∷ w) t s) (least_clash keys stmts (i ∷ w) t s) level (ground_from keys stmts (level + 1) w t s) (least_flat (i ∷ w) t s) (from_flat (level + 1) w t s)

  rivals_flat : (w : List ℕ) (t : Tuple) → list_all is_flat_tuple (rivals keys stmts w t) ≡ true
  rivals_flat w t =
      let near = filter (is_rival_near keys w t) stmts in
      set_all_pass is_flat_tuple tuple_cmp (map (λ x. x.tuple) near)
      (list_all-map is_flat_tuple (λ (x : Stmt). x.tuple) near ∙ list_all-filter is_flat_stmt (is_rival_near keys w t) stmts all)

  ruled_flat : (w : List ℕ) (t : Tuple) → is_flat_tuple t ≡ true → is_flat_ruled (ruled_of keys stmts w t) ≡ true
  ruled_flat w t h = and_from (is_flat_tuple t) (is_flat_ground (ground_of keys stmts w t Plus)) h (from_flat 0 w t Plus)

  considered_flat : (w : List ℕ) (t : Tuple) (s : Sign) → list_all is_flat_ruled (considered keys stmts w t s) ≡ true
  considered_flat w t Plus = refl
  considered_flat w t Minus =
      list_all-map is_flat_ruled (ruled_of keys stmts w) (rivals keys stmts w t)
      ∙ list_all_weaker is_flat_tuple (λ x. is_flat_ruled (ruled_of keys stmts w x)) (ruled_flat w) (rivals keys stmts w t) (rivals_flat w t)

  other_flat : (o : Option Ruled) (own : Ground) (others : List Ruled) → if_there is_flat_ruled o ≡ true → is_flat_ground own ≡ true → list_all is_flat_ruled others ≡ true
      → is_flat_why (other_or o own others) ≡ true
  other_flat (Some r) own others h g f = h
  other_flat None own others h g f = and_from (is_flat_ground own) (list_all is_flat_ruled others) g f

  why_flat : (w : List ℕ) (t : Tuple) (s : Sign) → is_flat_why (why_of keys stmts w t s) ≡ true
  why_flat w t s =
      let own = ground_of keys stmts w t s in
      let others = considered keys stmts w t s in
      cond_both (is_found own) (Stated own) (other_or (find is_held others) own others) (λ y. is_flat_why y ≡ true) (λ e. from_flat 0 w t s)
      (λ e. other_flat (find is_held others) own others (found_passes is_held is_flat_ruled others (considered_flat w t s)) (from_flat 0 w t s) (considered_flat w t s))

-- ---- its lines

module _ (c : Catalog) (v : IsCatalog c) (path : List ℕ) where
  level_flat : (level : ℕ) (s : Sign) (t : Tuple) → is_flat_tuple t ≡ true → IsFlat (signed_at_level c path level s t)
  level_flat level s t h =
      flat_append (signed_text c s t ++ codes " at ") (path_text c (drop level path))
      (flat_append (signed_text c s t) (codes " at ") (signed_flat c v s t h) refl) (path_flat c v (drop level path))

  reason_flat : (word : List ℕ) → IsFlat word → (s : Sign) (t : Tuple) (g : Ground) → is_flat_tuple t ≡ true → is_flat_ground g ≡ true → IsFlat (reason_text c path word s t g)
  reason_flat word w s t (Found level) h g =
      flat_append (word ++ codes " ") (signed_at_level c path level s t) (flat_append word (codes " ") w refl) (level_flat level s t h)
  reason_flat word w s t (Blocked level by) h g =
      let front = codes "blocked " ++ signed_at_level c path level s t in
      flat_append (front ++ codes " by ") (signed_text c by.sign by.tuple)
      (flat_append front (codes " by ") (flat_append (codes "blocked ") (signed_at_level c path level s t) refl (level_flat level s t h)) refl) (signed_flat c v by.sign by.tuple g)
  reason_flat word w s t Nowhere h g = flat_append (codes "nowhere ") (signed_text c s t) refl (signed_flat c v s t h)

  own_quiet : (t : Tuple) (s : Sign) (g : Ground) → is_flat_tuple t ≡ true → is_flat_ground g ≡ true → is_quiet (own_text c path t s g) ≡ true
  own_quiet t s (Found level) h g = quiet_from (own_text c path t s (Found level)) (reason_flat (codes "stated") refl s t (Found level) h g) refl
  own_quiet t s (Blocked level by) h g = quiet_from (own_text c path t s (Blocked level by)) (reason_flat (codes "stated") refl s t (Blocked level by) h g) refl
  own_quiet t s Nowhere h g = quiet_from (own_text c path t s Nowhere) (reason_flat (codes "stated") refl s t Nowhere h g) refl

  ruled_quiet : (t : Tuple) (g : Ground) → is_flat_tuple t ≡ true → is_flat_ground g ≡ true → is_quiet (reason_text c path (codes "other") Plus t g) ≡ true
  ruled_quiet t (Found level) h g = quiet_from (reason_text c path (codes "other") Plus t (Found level)) (reason_flat (codes "other") refl Plus t (Found level) h g) refl
  ruled_quiet t (Blocked level by) h g = quiet_from (reason_text c path (codes "other") Plus t (Blocked level by)) (reason_flat (codes "other") refl Plus t (Blocked level by) h g) refl
  ruled_quiet t Nowhere h g = quiet_from (reason_text c path (codes "other") Plus t Nowhere) (reason_flat (codes "other") refl Plus t Nowhere h g) refl

  other_quiet : (r : Ruled) → is_flat_ruled r ≡ true → is_quiet (other_text c path r) ≡ true
  other_quiet r h = let k = and_parts (is_flat_tuple r.tuple) (is_flat_ground r.reason) h in ruled_quiet r.tuple r.reason k.0 k.1

  yes_quiet : (text : List ℕ) → IsFlat text → is_quiet (codes "yes " ++ text) ≡ true
  yes_quiet text f = quiet_from (codes "yes " ++ text) (flat_append (codes "yes ") text refl f) refl

  lines_quiet : (t : Tuple) (s : Sign) (y : Why) → is_flat_tuple t ≡ true → is_flat_why y ≡ true → list_all is_quiet (why_lines c path t s y) ≡ true
  lines_quiet t s (Stated g) h f =
      and_from (is_quiet (codes "yes " ++ own_text c path t s g)) true (yes_quiet (own_text c path t s g) (reason_flat (codes "stated") refl s t g h f)) refl
  lines_quiet t s (Other r) h f =
      let k = and_parts (is_flat_tuple r.tuple) (is_flat_ground r.reason) f in
      and_from (is_quiet (codes "yes " ++ other_text c path r)) true (yes_quiet (other_text c path r) (reason_flat (codes "other") refl Plus r.tuple r.reason k.0 k.1)) refl
  lines_quiet t s (Absent own others) h f =
      let k = and_parts (is_flat_ground own) (list_all is_flat_ruled others) f in
      and_from (is_quiet (own_text c path t s own)) (list_all is_quiet (map (other_text c path) others)) (own_quiet t s own h k.0)
      (list_all-map is_quiet (other_text c path) others ∙ list_all_weaker is_flat_ruled (λ r. is_quiet (other_text c path r)) other_quiet others k.1)

  -- the reply to `why` over statements whose texts have no line feed
  pub reasons_quiet : (keys : ℕ → ℕ) (stmts : List Stmt) (t : Tuple) (s : Sign) → have_flat_tuples stmts ≡ true → is_flat_tuple t ≡ true
      → IsQuiet (why_reply c path t s (why_of keys stmts path t s))
  reasons_quiet keys stmts t s all h =
      let y = why_of keys stmts path t s in
      quiet_append (flat_map line (why_lines c path t s y)) (count_reply (length (why_lines c path t s y)))
      (quiet_lines is_quiet (λ t. t) (λ t q. q) (why_lines c path t s y) (lines_quiet t s y h (why_flat keys stmts all path t s)))
      (count_quiet (length (why_lines c path t s y)))
