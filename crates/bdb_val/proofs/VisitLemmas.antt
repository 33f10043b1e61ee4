-- What one visit of a walk does to the rows of all worlds.
use Rattle.std.proofs.Common.{◌≡◌, ◌∙◌, ℕ, ◌<◌, Bool, true, false, ◌&&◌, nat_eq, List, [], ◌∷◌, ◌⊎◌, length, Option, Some, None, MatchOption, cond, inl, inr, is_some, map, refl, ap, sym, subst, arith}
use Rattle.std.specs.List.{list_any, AllByRecursion}
use Rattle.std.specs.Option.{option_map, option_and_then}
use Rattle.std.specs.Ordering.{is_eq}
use Rattle.std.proofs.lemmas.Bool.{false≢true, cases_Bool, and_parts, or_parts, and_cases, not-false, cond-true, cond-false, eqb-true, eq-eqb}
use Rattle.bdb_base.specs.declared.kinds.Sign.{Sign}
use Rattle.bdb_base.specs.declared.kinds.Stmt.{Stmt}
use Rattle.bdb_base.specs.declared.tuple.Tuple.{Tuple}
use Rattle.bdb_base.specs.SameLemmas.{same_sign-Decides}
use Rattle.bdb_base.specs.States.{deepest_suffix, suffix_link}
use Rattle.bdb_base.specs.Worlds.{contradicted}
use Rattle.bdb_base.proofs.OptionLemmas.{none_is_some, same_some}
use Rattle.bdb_paths.proofs.SuffixLemmas.{length-deepest}
use Rattle.bdb_keep.specs.Tables.{Tables}
use Rattle.bdb_keep.proofs.RowsLemmas.{same_place}
use Rattle.bdb_key.specs.Bytes.{num_bytes}
use Rattle.bdb_key.specs.Grammar.{IsNum}
use Rattle.bdb_tables.specs.Codec.{HasAt}
use Rattle.bdb_tables.specs.InUse.{ValKey, IsValKey, val_bytes, link_codec, linked_codec, tuple_codec, val_codec}
use Rattle.bdb_tables.specs.InUseLaws.{number_rows_are_one, vals_are_one, vals_in_order}
use Rattle.bdb_tables.specs.Marks.{Mark, sign_of, explicit_of, explicit_sign}
use Rattle.bdb_tables.specs.Names.{Names, AreNames, path_of, number_of, is_named, link_of, leads_to}
use Rattle.bdb_tables.specs.States.{row_where}
use Rattle.bdb_tables.specs.Writes.{Gives, with_row_at, with_rows_at}
use Rattle.bdb_tables.proofs.WriteLemmas.{changes_elsewhere}
use Rattle.bdb_val.specs.Groups.{HasLinks}
use Rattle.bdb_val.specs.Middle.{worlds_of, HasExplicit, IsSettledAt}
use Rattle.bdb_val.specs.Reads.{HasRows}
use Rattle.bdb_val.specs.Settled.{settled_mark, passed_on, sign_at}
use Rattle.bdb_val.specs.Settling.{RowChange, mark_in, settling, last_mark, IsClosedGroup, row_key, keyed}
use Rattle.bdb_val.specs.Steps.{AreBeginnings, same_signs, turns}
use Rattle.bdb_val.specs.Walks.{IsVisit, IsQuiet, changes_of}
use Rattle.bdb_val.specs.declared.stored.StoredRow.{StoredRow}
use Rattle.bdb_val.proofs.HeldLemmas.{names_are_linked}
use Rattle.bdb_val.proofs.ReadLemmas.{one_number, key_fits}
use Rattle.bdb_val.proofs.StepLemmas.{IsOf, after_changes, other_rows, made_of, own_mark, gives_after, settled_after}

-- ---- links

-- the link that is read is the one that the tables give
link_read : (ns : Names) (t : Tables) → HasLinks ns t → (wid : ℕ) → IsNum wid → (link : Option ℕ) → HasAt link_codec t wid link → link ≡ link_of ns wid
link_read ns t h wid n None e = none (link_of ns wid) (sym (h.link.rows wid n) ∙ e)
  where
    none : (o : Option ℕ) → option_map num_bytes o ≡ None → None ≡ o
    none None e = refl
    none (Some m) e = absurd (none_is_some (num_bytes m) (sym e))
link_read ns t h wid n (Some m) e = one (link_of ns wid) (h.link.written wid n) (sym (h.link.rows wid n) ∙ e.found)
  where
    one : (o : Option ℕ) → MatchOption o (Unit {0}) IsNum → option_map num_bytes o ≡ Some (num_bytes m) → Some m ≡ o
    one None w e = absurd (none_is_some (num_bytes m) e)
    one (Some k) w f = ap Some (number_rows_are_one m k e.in_grammar w (sym (same_some (num_bytes k) (num_bytes m) f)))

link_fits : (ns : Names) (t : Tables) → HasLinks ns t → (wid : ℕ) → IsNum wid → MatchOption (link_of ns wid) (Unit {0}) IsNum
link_fits ns t h wid n = h.link.written wid n

-- no link leads from a world to itself
pub no_loop : (ns : Names) → AreNames ns → (wid : ℕ) (w : List ℕ) → path_of ns wid ≡ Some w → link_of ns wid ≡ Some wid → ⊥
no_loop ns names wid [] p l = none_is ((names_are_linked ns names).root wid p) l
  where
    none_is : {o : Option ℕ} → o ≡ None → o ≡ Some wid → ⊥
    none_is a b = cc
no_loop ns names wid (i ∷ w) p l =
    let m = (names_are_linked ns names).link wid i w p in
    let same : m.0 ≡ wid = some_number m.0 wid (sym m.1 ∙ l) in
    let q : Some (i ∷ w) ≡ Some (deepest_suffix (is_named ns) w) = sym p ∙ ap (path_of ns) (sym same) ∙ m.2 in
    let e = ap length (some_path (i ∷ w) (deepest_suffix (is_named ns) w) q) in
    let k = length-deepest (is_named ns) w in
    absurd (omega arith)
  where
    some_number : (a b : ℕ) → Some a ≡ Some b → a ≡ b
    some_number a b e = cc

    some_path : (a b : List ℕ) → Some a ≡ Some b → a ≡ b
    some_path a b e = cc

-- a world is named by a longer path than the one to which it is linked
pub link_is_shorter : (ns : Names) → AreNames ns → (m wid : ℕ) (v w : List ℕ) → path_of ns m ≡ Some v → path_of ns wid ≡ Some w → link_of ns m ≡ Some wid → length w < length v
link_is_shorter ns names m wid [] w p q l = absurd (none_is ((names_are_linked ns names).root m p) l)
  where
    none_is : {o : Option ℕ} → o ≡ None → o ≡ Some wid → ⊥
    none_is a b = cc
link_is_shorter ns names m wid (i ∷ v) w p q l =
    let k = (names_are_linked ns names).link m i v p in
    let same : k.0 ≡ wid = some_number k.0 wid (sym k.1 ∙ l) in
    let e : w ≡ deepest_suffix (is_named ns) v = some_path w (deepest_suffix (is_named ns) v) (sym q ∙ ap (path_of ns) (sym same) ∙ k.2) in
    let n : length w ≡ length (deepest_suffix (is_named ns) v) = ap length e in
    let k = length-deepest (is_named ns) v in
    omega arith
  where
    some_number : (a b : ℕ) → Some a ≡ Some b → a ≡ b
    some_number a b e = cc

    some_path : (a b : List ℕ) → Some a ≡ Some b → a ≡ b
    some_path a b e = cc

-- a world with a link has a name
pub linked_is_named : (ns : Names) (wid m : ℕ) → link_of ns wid ≡ Some m → is_some (path_of ns wid) ≡ true
linked_is_named ns wid m e = go (path_of ns wid) refl
  where
    none_is : {o : Option ℕ} → o ≡ None → o ≡ Some m → ⊥
    none_is a b = cc

    go : (o : Option (List ℕ)) → path_of ns wid ≡ o → is_some (path_of ns wid) ≡ true
    go None p = absurd (none_is (ap (λ o. option_and_then (number_of ns) (option_and_then (suffix_link (is_named ns)) o)) p) e)
    go (Some w) p = ap is_some p

-- ---- rows after changes of one world

-- a row that there is after changes was there before, or is that of a change
changed_row : (keys : ℕ → ℕ) (wid : ℕ) (tuple : ℕ → Option Tuple) (test : Tuple → Bool) (f : ValKey → Option Mark) (t : Tables) → HasRows keys tuple f t → IsNum wid → (k : ValKey) → IsValKey k
    → (cs : List RowChange) (g : ValKey → Option Mark) → AllByRecursion (IsOf tuple test) cs → is_some (with_rows_at val_codec g (map (keyed keys wid) cs) k) ≡ true
    → (is_some (g k) ≡ true) ⊎ ((tid : ℕ) × (u : Tuple) × (tuple tid ≡ Some u) × (k ≡ row_key keys wid tid u))
changed_row keys wid tuple test f t h n k v [] g a s = inl s
changed_row keys wid tuple test f t h n k v (x ∷ xs) g a s = elim (changed_row keys wid tuple test f t h n k v xs (with_row_at val_codec g (keyed keys wid x)) a.1 s) [
  | inr r ↦ inr r
  | inl e ↦ elim (cases_Bool (is_eq (val_codec.key_cmp k (row_key keys wid x.0 x.1)))) [
    | inl c ↦
        let fits = key_fits keys tuple f t h wid x.0 x.1 n a.0.0 in
        inr (x.0, x.1, a.0.0, vals_are_one k (row_key keys wid x.0 x.1) v fits (same_place (val_bytes k) (val_bytes (row_key keys wid x.0 x.1)) (ap is_eq (vals_in_order k (row_key keys wid x.0 x.1) v fits) ∙ c)))
    | inr c ↦ inl (ap is_some (sym (cond-false (is_eq (val_codec.key_cmp k (row_key keys wid x.0 x.1))) x.2 (g k) c)) ∙ e)
  ]
]

-- the explicit sign of a settled row is the explicit one
explicit_settled : (o : Option Sign) (bars : Sign → Bool) (from : Option Sign) → explicit_of (settled_mark o bars from) ≡ o
explicit_settled (Some s) bars from = refl
explicit_settled None bars None = refl
explicit_settled None bars (Some s) = go (bars s)
  where
    go : (b : Bool) → explicit_of (passed_on b (Some s)) ≡ None
    go true = refl
    go false = refl

-- ---- signs after changes that turn none

same_signs_tells : (a b : Option Sign) → same_signs a b ≡ true → a ≡ b
same_signs_tells None None e = refl
same_signs_tells None (Some t) e = absurd (false≢true e)
same_signs_tells (Some s) None e = absurd (false≢true e)
same_signs_tells (Some s) (Some t) e = ap Some ((same_sign-Decides s t).0 e)

last_sign : (cs : List RowChange) (tid : ℕ) (m : Option Mark) (z : Option Sign) → AllByRecursion (λ c. nat_eq c.0 tid ≡ true → sign_of c.2 ≡ z) cs → sign_of m ≡ z → sign_of (last_mark cs tid m) ≡ z
last_sign [] tid m z a e = e
last_sign (c ∷ cs) tid m z a e = last_sign cs tid (cond (nat_eq c.0 tid) c.2 m) z a.1 (elim (cases_Bool (nat_eq c.0 tid)) [
  | inl k ↦ ap sign_of (cond-true (nat_eq c.0 tid) c.2 m k) ∙ a.0 k
  | inr k ↦ ap sign_of (cond-false (nat_eq c.0 tid) c.2 m k) ∙ e
])

quiet_each : (keys : ℕ → ℕ) (wid : ℕ) (own : List StoredRow) (cs : List RowChange) → list_any (turns (mark_in own)) (map (keyed keys wid) cs) ≡ false → (tid : ℕ)
    → AllByRecursion (λ c. nat_eq c.0 tid ≡ true → sign_of c.2 ≡ sign_of (mark_in own tid)) cs
quiet_each keys wid own [] q tid = tt
quiet_each keys wid own (c ∷ cs) q tid =
    let p = or_parts (turns (mark_in own) (keyed keys wid c)) (list_any (turns (mark_in own)) (map (keyed keys wid) cs)) q in (
      (λ k. sym (same_signs_tells (sign_of (mark_in own c.0)) (sign_of c.2) (not-false (same_signs (sign_of (mark_in own c.0)) (sign_of c.2)) p.0))
          ∙ ap (λ i. sign_of (mark_in own i)) (eqb-true c.0 tid k)),
      quiet_each keys wid own cs p.1 tid,
    )

module _ (keys : ℕ → ℕ) (stmts : List Stmt) (ns : Names) (tuple : ℕ → Option Tuple) (test : Tuple → Bool) (prefix : ℕ → List ℕ) (names : AreNames ns) (spans : AreBeginnings keys test prefix) (group : IsClosedGroup keys test)
    (g : ValKey → Option Mark) (u v : Tables) (h : HasExplicit keys stmts (worlds_of ns) tuple g u) (links : HasLinks ns u) (wid : ℕ) (w : List ℕ) (named : path_of ns wid ≡ Some w) (s : IsVisit keys prefix u v wid) where
  number : IsNum wid
  number = h.sized wid w named

  is_link : s.link ≡ link_of ns wid
  is_link = link_read ns u links wid number s.link s.linked

  fits : MatchOption s.link (Unit {0}) IsNum
  fits = subst (λ o. MatchOption o (Unit {0}) IsNum) (sym is_link) (link_fits ns u links wid number)

  -- the rows that the tables give after the visit
  abbrev pub seen : ValKey → Option Mark
  seen = with_rows_at val_codec g (changes_of s)

  of : AllByRecursion (IsOf tuple test) (settling keys s.settling.own s.settling.own s.settling.from)
  of = made_of keys tuple g u h.rows test prefix spans v wid s.link number fits s.settling

  -- rows of other worlds, and of other tuples, stay
  pub stays : (k : ValKey) → IsValKey k → ((tid : ℕ) (x : Tuple) → tuple tid ≡ Some x → test x ≡ true → k ≡ row_key keys wid tid x → ⊥) → seen k ≡ g k
  stays k f bad = other_rows keys tuple g u h.rows test prefix spans wid k number f bad (settling keys s.settling.own s.settling.own s.settling.from) g of

  pub other_world : (m tid : ℕ) (x : Tuple) → IsNum m → tuple tid ≡ Some x → (m ≡ wid → ⊥) → seen (row_key keys m tid x) ≡ g (row_key keys m tid x)
  other_world m tid x n p bad = stays (row_key keys m tid x) (key_fits keys tuple g u h.rows m tid x n p) (λ i y q e k. bad (ap (λ (z : ValKey). z.0) k))

  pub other_tuple : (m tid : ℕ) (x : Tuple) → IsNum m → tuple tid ≡ Some x → test x ≡ false → seen (row_key keys m tid x) ≡ g (row_key keys m tid x)
  other_tuple m tid x n p out = stays (row_key keys m tid x) (key_fits keys tuple g u h.rows m tid x n p) (λ i y q e k.
      false≢true (sym out ∙ ap test (one_number tuple tid i x y p q (ap (λ (z : ValKey). z.3) k)) ∙ e))

  pub gives_seen : Gives val_codec v seen
  gives_seen = gives_after keys tuple g u h.rows test prefix spans v wid s.link number fits s.settling

  -- the visited world's row of a tuple is settled by the rows before
  here : (tid : ℕ) (x : Tuple) → tuple tid ≡ Some x → test x ≡ true
      → seen (row_key keys wid tid x) ≡ settled_mark (explicit_sign stmts w x) (contradicted keys stmts w x) (sign_at (λ m. g (row_key keys m tid x)) s.link)
  here tid x p e = settled_after keys tuple g u h.rows test prefix spans v wid s.link number fits s.settling stmts w (λ i y q f. h.explicit wid w i y named q) h.consistent group h.numbered tid x p e

  -- ---- what holds of the tables after the visit

  tuples_seen : Gives tuple_codec v tuple
  tuples_seen = subst (λ t. Gives tuple_codec t tuple) (sym s.settling.written) (changes_elsewhere tuple_codec val_codec (λ e. cc) u tuple (changes_of s) h.rows.tuples)

  pub links_after : HasLinks ns v
  links_after = record {
    link = subst (λ t. Gives link_codec t (link_of ns)) (sym s.settling.written) (changes_elsewhere link_codec val_codec (λ e. cc) u (link_of ns) (changes_of s) links.link);
    linked = subst (λ t. Gives linked_codec t (λ k. row_where (leads_to (link_of ns k.1) k.0))) (sym s.settling.written)
        (changes_elsewhere linked_codec val_codec (λ e. cc) u (λ k. row_where (leads_to (link_of ns k.1) k.0)) (changes_of s) links.linked);
  }

  seen_or : (k : ValKey) → IsValKey k → is_some (seen k) ≡ true → (is_some (g k) ≡ true) ⊎ ((tid : ℕ) × (x : Tuple) × (tuple tid ≡ Some x) × (k ≡ row_key keys wid tid x))
  seen_or k f e = changed_row keys wid tuple test g u h.rows number k f (settling keys s.settling.own s.settling.own s.settling.from) g of e

  pub explicit_after : HasExplicit keys stmts (worlds_of ns) tuple seen v
  explicit_after = record {
    rows = record {
      lengths = h.rows.lengths;
      tuples = tuples_seen;
      rows = gives_seen;
      sized = h.rows.sized;
      keyed = λ k f e. elim (seen_or k f e) [
        | inl a ↦ h.rows.keyed k f a
        | inr r ↦ (r.1, ap (λ (z : ValKey). tuple z.3) r.3 ∙ r.2, ap (λ (z : ValKey). row_key keys z.0 z.3 r.1) r.3 ∙ sym r.3)
      ];
    };
    sized = h.sized;
    worlds = λ k f e. elim (seen_or k f e) [
      | inl a ↦ h.worlds k f a
      | inr r ↦ ap (λ (z : ValKey). is_some (path_of ns z.0)) r.3 ∙ ap is_some named
    ];
    explicit = λ m p tid x a b. elim (cases_Bool (nat_eq m wid && test x)) [
      | inl e ↦
          let k = and_parts (nat_eq m wid) (test x) e in
          let i : m ≡ wid = eqb-true m wid k.0 in
          let same : w ≡ p = one_path w p (sym named ∙ ap (path_of ns) (sym i) ∙ a) in
          ap (λ (z : ℕ). explicit_of (seen (row_key keys z tid x))) i ∙ ap explicit_of (here tid x b k.1)
          ∙ explicit_settled (explicit_sign stmts w x) (contradicted keys stmts w x) (sign_at (λ z. g (row_key keys z tid x)) s.link) ∙ ap (λ (z : List ℕ). explicit_sign stmts z x) same
      | inr e ↦ elim (and_cases (nat_eq m wid) (test x) e) [
        | inl c ↦ ap explicit_of (other_world m tid x (h.sized m p a) b (λ i. false≢true (sym c ∙ eq-eqb m wid i))) ∙ h.explicit m p tid x a b
        | inr c ↦ ap explicit_of (other_tuple m tid x (h.sized m p a) b c) ∙ h.explicit m p tid x a b
      ]
    ];
    numbered = h.numbered;
    consistent = h.consistent;
  }
    where
      one_path : (a b : List ℕ) → Some a ≡ Some b → a ≡ b
      one_path a b e = cc

  -- ---- what is settled after the visit

  -- the sign over a link to another world stays
  same_link : (o : Option ℕ) (tid : ℕ) (x : Tuple) → tuple tid ≡ Some x → MatchOption o (Unit {0}) IsNum → ((m : ℕ) → o ≡ Some m → m ≡ wid → ⊥)
      → sign_at (λ m. g (row_key keys m tid x)) o ≡ sign_at (λ m. seen (row_key keys m tid x)) o
  same_link None tid x p n bad = refl
  same_link (Some m) tid x p n bad = ap sign_of (sym (other_world m tid x n p (bad m refl)))

  -- the visited world is settled
  pub settled_here : (tid : ℕ) (x : Tuple) → tuple tid ≡ Some x → test x ≡ true → IsSettledAt keys stmts (worlds_of ns) seen wid tid x
  settled_here tid x p e q a =
      let same : w ≡ q = one_path w q (sym named ∙ a) in
      here tid x p e
      ∙ ap (settled_mark (explicit_sign stmts w x) (contradicted keys stmts w x))
      (same_link s.link tid x p fits (λ m k i. no_loop ns names wid w named (sym is_link ∙ k ∙ ap Some i)) ∙ ap (sign_at (λ m. seen (row_key keys m tid x))) is_link)
      ∙ ap (λ (z : List ℕ). settled_mark (explicit_sign stmts z x) (contradicted keys stmts z x) (sign_at (λ m. seen (row_key keys m tid x)) (link_of ns wid))) same
    where
      one_path : (a b : List ℕ) → Some a ≡ Some b → a ≡ b
      one_path a b e = cc

  -- another world stays settled, unless it is linked to the visited one, where a sign is another
  pub settled_there : (m tid : ℕ) (x : Tuple) → tuple tid ≡ Some x → (m ≡ wid → ⊥) → (link_of ns m ≡ Some wid → sign_of (seen (row_key keys wid tid x)) ≡ sign_of (g (row_key keys wid tid x)))
      → IsSettledAt keys stmts (worlds_of ns) g m tid x → IsSettledAt keys stmts (worlds_of ns) seen m tid x
  settled_there m tid x p bad quiet k q a =
      let n = h.sized m q a in
      other_world m tid x n p bad ∙ k q a
      ∙ ap (settled_mark (explicit_sign stmts q x) (contradicted keys stmts q x)) (over (link_of ns m) refl (link_fits ns u links m n))
    where
      over : (o : Option ℕ) → link_of ns m ≡ o → MatchOption o (Unit {0}) IsNum → sign_at (λ z. g (row_key keys z tid x)) (link_of ns m) ≡ sign_at (λ z. seen (row_key keys z tid x)) (link_of ns m)
      over None e f = ap (sign_at (λ z. g (row_key keys z tid x))) e ∙ sym (ap (sign_at (λ z. seen (row_key keys z tid x))) e)
      over (Some z) e f = ap (sign_at (λ y. g (row_key keys y tid x))) e ∙ elim (cases_Bool (nat_eq z wid)) [
        | inl c ↦
            let i = eqb-true z wid c in
            ap (λ (y : ℕ). sign_of (g (row_key keys y tid x))) i ∙ sym (quiet (e ∙ ap Some i)) ∙ ap (λ (y : ℕ). sign_of (seen (row_key keys y tid x))) (sym i)
        | inr c ↦ ap sign_of (sym (other_world z tid x f p (λ i. false≢true (sym c ∙ eq-eqb z wid i))))
      ] ∙ sym (ap (sign_at (λ y. seen (row_key keys y tid x))) e)

  -- rows of tuples that fail the test stay settled
  pub settled_other : (m tid : ℕ) (x : Tuple) → tuple tid ≡ Some x → test x ≡ false → IsSettledAt keys stmts (worlds_of ns) g m tid x → IsSettledAt keys stmts (worlds_of ns) seen m tid x
  settled_other m tid x p out k q a =
      let n = h.sized m q a in
      other_tuple m tid x n p out ∙ k q a ∙ ap (settled_mark (explicit_sign stmts q x) (contradicted keys stmts q x)) (over (link_of ns m) (link_fits ns u links m n))
    where
      over : (o : Option ℕ) → MatchOption o (Unit {0}) IsNum → sign_at (λ z. g (row_key keys z tid x)) o ≡ sign_at (λ z. seen (row_key keys z tid x)) o
      over None f = refl
      over (Some z) f = ap sign_of (sym (other_tuple z tid x f p out))

  -- where no change turns a sign, the visited world's signs stay
  pub quiet_signs : IsQuiet s → (tid : ℕ) (x : Tuple) → tuple tid ≡ Some x → test x ≡ true → sign_of (seen (row_key keys wid tid x)) ≡ sign_of (g (row_key keys wid tid x))
  quiet_signs q tid x p e =
      let cs = settling keys s.settling.own s.settling.own s.settling.from in
      let own = own_mark keys tuple g u h.rows test prefix spans v wid s.link number fits s.settling tid x p e in
      ap sign_of (after_changes keys tuple g u h.rows test prefix spans wid tid x number p cs g of)
      ∙ last_sign cs tid (g (row_key keys wid tid x)) (sign_of (mark_in s.settling.own tid)) (quiet_each keys wid s.settling.own cs q tid) (ap sign_of (sym own)) ∙ ap sign_of own
