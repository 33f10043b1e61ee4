-- What an allowed command that isn't refused is bound to fits the catalog.
use Rattle.std.proofs.Common.{◌≡◌, ◌∙◌, ℕ, ◌+◌, ◌≤◌, Bool, true, false, not, ◌||◌, List, [], ◌∷◌, ◌++◌, length, map, Some, None, refl, sym, ap, inl, inr, arith, zero-add}
use Rattle.std.specs.Option.{is_some, option_map, unwrap_or}
use Rattle.std.specs.List.{list_any, list_all, slice_get, position_from}
use Rattle.std.proofs.lemmas.Bool.{cases_Bool, and_from, and_parts, or_parts, or_from, cond-true, cond-false, not-false, not-true, not_from_false, ltb-false, le-leb}
use Rattle.std.proofs.lemmas.List.Folds.{list_any-append, list_all-append}
use Rattle.bdb_base.specs.declared.kinds.Catalog.{Catalog}
use Rattle.bdb_base.specs.declared.kinds.ColDef.{ColDef}
use Rattle.bdb_base.specs.declared.kinds.Kind.{Kind}
use Rattle.bdb_base.specs.declared.kinds.Kind.TheVariants as kind
use Rattle.bdb_base.specs.declared.kinds.UserSlot.{UserSlot}
use Rattle.bdb_base.specs.declared.kinds.UserSlot.TheVariants.{Live, Gone}
use Rattle.bdb_base.specs.declared.kinds.Value.{Value}
use Rattle.bdb_base.specs.declared.kinds.Value.TheVariants.{Int, Text}
use Rattle.bdb_base.specs.Same.{same_text, same_kind}
use Rattle.bdb_base.specs.Bases.{is_clean, is_plain, fits_kind, fits_columns, are_distinct, user_names, is_called}
use Rattle.bdb_base.specs.Safety.{one_kind}
use Rattle.bdb_base.proofs.OptionLemmas.{some_of}
use Rattle.bdb_base.proofs.SegmentLemmas.{same_text_is, same_text_itself}
use Rattle.bdb_syntax.specs.declared.command.Command.{Command}
use Rattle.bdb_syntax.specs.declared.command.RawCond.{RawCond}
use Rattle.bdb_syntax.specs.declared.command.RawSide.{RawSide}
use Rattle.bdb_syntax.specs.declared.command.RawSide.TheVariants.{Col, Lit}
use Rattle.bdb_syntax.specs.declared.command.RawSet.{RawSet}
use Rattle.bdb_bind.specs.Lookup.{column_at, has_column, kind_at, path_of}
use Rattle.bdb_bind.specs.Parts.{path_names, depth_limit, value_texts, side_texts, cond_columns, side_columns, is_long}
use Rattle.bdb_bind.specs.Kinds.{kind_of}
use Rattle.bdb_bind.specs.Lines.{first_repeated, misfit, side_kind, fits_set, fits_cond}
use Rattle.bdb_bind.specs.Binding.{place_of, bound_side, bound_cond, bound_set}
use Rattle.bdb_bind.specs.Fits.{is_unclean, fits_path, fits_found, set_fits, kind_of_place, side_fits, cond_fits}
use Rattle.bdb_bind.proofs.Founds.{found}
use Rattle.bdb_bind.proofs.PathLemmas.{path_users, path_alternates, path_length}
use Rattle.bdb_bind.proofs.Cleared.{IsCleared, users_known, names_apart, not_deep}

-- texts

pub plain_text : (text : List ℕ) → is_long text ≡ false → is_unclean text ≡ false → is_plain text ≡ true
plain_text text short clean = and_from _ _ (le-leb (length text) 255 (ltb-false 255 (length text) short)) (not-false (is_clean text) clean)

-- a value of a column's kind, whose texts are short and clean, fits it
pub value_fits : (k : Kind) (v : Value) → same_kind k (kind_of v) ≡ true → list_any is_long (value_texts v) ≡ false → list_any is_unclean (value_texts v) ≡ false
    → fits_kind k v ≡ true
value_fits kind.Int (Int n) same short clean = refl
value_fits kind.Int (Text t) same short clean = cc
value_fits kind.Text (Int n) same short clean = cc
value_fits kind.Text (Text t) same short clean = plain_text t (or_parts (is_long t) false short).0 (or_parts (is_unclean t) false clean).0

-- paths

pub path_fits : (catalog : Catalog) (c : Command) → IsCleared catalog c → fits_path catalog.users (depth_limit c) (path_of catalog.users (path_names c)) ≡ true
path_fits catalog c clear =
    let known = users_known catalog c clear.user in
    let path = path_of catalog.users (path_names c) in
    let deep : length path ≤ depth_limit c = omega (arith, path_length catalog.users (path_names c), not_deep c clear.deep) in
    and_from _ _ (and_from _ _ (path_alternates catalog.users (path_names c) known (names_apart c clear.no_repeat)) (le-leb (length path) (depth_limit c) deep))
    (path_users catalog.users (path_names c) known)

-- columns

-- a column that is found: what stands at its place
pub record IsColumn (cols : List ColDef) (name : List ℕ) : Type 0 where
  pub item : ColDef
  pub there : slice_get cols (place_of cols name) ≡ Some item
  pub kind : kind_at cols name ≡ Some item.kind

pub column_found : (cols : List ColDef) (name : List ℕ) → has_column cols name ≡ true → IsColumn cols name
column_found cols name known =
    let w = some_of (column_at cols name) known in
    let f = found (λ c. same_text c.name name) 0 cols w.0 w.1 in
    let place : place_of cols name ≡ f.at = ap (λ o. unwrap_or o 0) w.1 ∙ f.place ∙ zero-add f.at in
    record { item = f.item; there = ap (slice_get cols) place ∙ f.there; kind = ap (option_map (λ c. c.kind)) f.first }

-- values against columns

pub values_fit : (cols : List ColDef) (vals : List Value) → length vals ≡ length cols → misfit cols vals ≡ None
    → list_any (λ v. list_any is_long (value_texts v)) vals ≡ false → list_any (λ v. list_any is_unclean (value_texts v)) vals ≡ false → fits_columns cols vals ≡ true
values_fit [] [] many fit short clean = refl
values_fit [] (v ∷ vs) many fit short clean = absurd (omega arith)
values_fit (c ∷ cs) [] many fit short clean = absurd (omega arith)
values_fit (c ∷ cs) (v ∷ vs) many fit short clean =
    let shorts = or_parts (list_any is_long (value_texts v)) (list_any (λ x. list_any is_long (value_texts x)) vs) short in
    let cleans = or_parts (list_any is_unclean (value_texts v)) (list_any (λ x. list_any is_unclean (value_texts x)) vs) clean in
    elim (cases_Bool (same_kind c.kind (kind_of v))) [
      | inl same ↦ and_from _ _ (value_fits c.kind v same shorts.0 cleans.0)
          (values_fit cs vs (omega arith) (sym (cond-true (same_kind c.kind (kind_of v)) (misfit cs vs) (Some c.name) same) ∙ fit) shorts.1 cleans.1)
      | inr other ↦ let here : Some c.name ≡ None = sym (cond-false (same_kind c.kind (kind_of v)) (misfit cs vs) (Some c.name) other) ∙ fit in cc
    ]

-- sets

pub one_set_fits : (cols : List ColDef) (s : RawSet) → has_column cols s.col ≡ true → fits_set cols s ≡ true
    → list_any is_long (value_texts s.to) ≡ false → list_any is_unclean (value_texts s.to) ≡ false → set_fits cols (bound_set cols s) ≡ true
one_set_fits cols s known fit short clean =
    let w = column_found cols s.col known in
    let same : same_kind w.item.kind (kind_of s.to) ≡ true = sym (ap (λ o. one_kind o (Some (kind_of s.to))) w.kind) ∙ fit in
    ap (λ o. fits_found o s.to) w.there ∙ value_fits w.item.kind s.to same short clean

pub sets_fit : (cols : List ColDef) (sets : List RawSet) → list_all (has_column cols) (map (λ s. s.col) sets) ≡ true → list_all (fits_set cols) sets ≡ true
    → list_any (λ s. list_any is_long (value_texts s.to)) sets ≡ false → list_any (λ s. list_any is_unclean (value_texts s.to)) sets ≡ false
    → list_all (set_fits cols) (map (bound_set cols) sets) ≡ true
sets_fit cols [] known fit short clean = refl
sets_fit cols (s ∷ ss) known fit short clean =
    let knowns = and_parts (has_column cols s.col) (list_all (has_column cols) (map (λ x. x.col) ss)) known in
    let fits = and_parts (fits_set cols s) (list_all (fits_set cols) ss) fit in
    let shorts = or_parts (list_any is_long (value_texts s.to)) (list_any (λ x. list_any is_long (value_texts x.to)) ss) short in
    let cleans = or_parts (list_any is_unclean (value_texts s.to)) (list_any (λ x. list_any is_unclean (value_texts x.to)) ss) clean in
    and_from _ _ (one_set_fits cols s knowns.0 fits.0 shorts.0 cleans.0) (sets_fit cols ss knowns.1 fits.1 shorts.1 cleans.1)

-- comparisons

pub one_side_fits : (cols : List ColDef) (left : List ℕ) (side : RawSide) → has_column cols left ≡ true → list_all (has_column cols) (side_columns side) ≡ true
    → one_kind (kind_at cols left) (side_kind cols side) ≡ true → list_any is_long (side_texts side) ≡ false → list_any is_unclean (side_texts side) ≡ false
    → side_fits cols (place_of cols left) (bound_side cols side) ≡ true
one_side_fits cols left (Col r) known right fit short clean =
    let a = column_found cols left known in
    let b = column_found cols r.col (and_parts (has_column cols r.col) true right).0 in
    let kind_a : kind_of_place cols (place_of cols left) ≡ kind_at cols left = ap (option_map (λ c. c.kind)) a.there ∙ sym a.kind in
    let kind_b : kind_of_place cols (place_of cols r.col) ≡ kind_at cols r.col = ap (option_map (λ c. c.kind)) b.there ∙ sym b.kind in
    ap (λ k. one_kind k (kind_of_place cols (place_of cols r.col))) kind_a ∙ ap (one_kind (kind_at cols left)) kind_b ∙ fit
one_side_fits cols left (Lit v) known right fit short clean =
    let a = column_found cols left known in
    let same : same_kind a.item.kind (kind_of v) ≡ true = sym (ap (λ o. one_kind o (Some (kind_of v))) a.kind) ∙ fit in
    ap (λ o. fits_found o v) a.there ∙ value_fits a.item.kind v same short clean

pub conds_fit : (cols : List ColDef) (conds : List RawCond) → list_all (has_column cols) (cond_columns conds) ≡ true → list_all (fits_cond cols) conds ≡ true
    → list_any (λ c. list_any is_long (side_texts c.right)) conds ≡ false → list_any (λ c. list_any is_unclean (side_texts c.right)) conds ≡ false
    → list_all (cond_fits cols) (map (bound_cond cols) conds) ≡ true
conds_fit cols [] known fit short clean = refl
conds_fit cols (c ∷ cs) known fit short clean =
    let here = and_parts (has_column cols c.left.col) (list_all (has_column cols) (side_columns c.right ++ cond_columns cs)) known in
    let rest = and_parts (list_all (has_column cols) (side_columns c.right)) (list_all (has_column cols) (cond_columns cs))
    (sym (list_all-append (has_column cols) (side_columns c.right) (cond_columns cs)) ∙ here.1) in
    let fits = and_parts (fits_cond cols c) (list_all (fits_cond cols) cs) fit in
    let shorts = or_parts (list_any is_long (side_texts c.right)) (list_any (λ x. list_any is_long (side_texts x.right)) cs) short in
    let cleans = or_parts (list_any is_unclean (side_texts c.right)) (list_any (λ x. list_any is_unclean (side_texts x.right)) cs) clean in
    and_from _ _ (one_side_fits cols c.left.col c.right here.0 rest.0 fits.0 shorts.0 cleans.0) (conds_fit cols cs rest.1 fits.1 shorts.1 cleans.1)

-- new names

pub none_among : {X : Type 0} (p : X → Bool) (start : ℕ) (xs : List X) → is_some (position_from p start xs) ≡ false → list_any p xs ≡ false
none_among p start [] none = refl
none_among p start (x ∷ xs) none = elim (cases_Bool (p x)) [
  | inl passes ↦ let there = ap is_some (cond-true (p x) (Some start) (position_from p (start + 1) xs) passes) in cc
  | inr other ↦ or_from (p x) (list_any p xs) other
      (none_among p (start + 1) xs (sym (ap is_some (cond-false (p x) (Some start) (position_from p (start + 1) xs) other)) ∙ none))
]

-- where no place is of one who is called so, no name is this one
pub none_called : (users : List UserSlot) (name : List ℕ) → list_any (is_called name) users ≡ false → list_any (λ x. same_text x name) (user_names users) ≡ false
none_called [] name none = refl
none_called (Live x ∷ us) name none =
    let parts = or_parts (same_text x name) (list_any (is_called name) us) none in
    or_from (same_text x name) (list_any (λ y. same_text y name) (user_names us)) parts.0 (none_called us name parts.1)
none_called (Gone ∷ us) name none = none_called us name none

pub distinct_with : (names : List (List ℕ)) (name : List ℕ) → are_distinct names ≡ true → list_any (λ x. same_text x name) names ≡ false
    → are_distinct (names ++ name ∷ []) ≡ true
distinct_with [] name distinct apart = refl
distinct_with (n ∷ ns) name distinct apart =
    let parts = and_parts (not (list_any (same_text n) ns)) (are_distinct ns) distinct in
    let aparts = or_parts (same_text n name) (list_any (λ x. same_text x name) ns) apart in
    let none = list_any-append (same_text n) ns (name ∷ []) ∙ or_from (list_any (same_text n) ns) (same_text n name || false)
    (not-true (list_any (same_text n) ns) parts.0) (or_from (same_text n name) false aparts.0 refl) in
    and_from _ _ (not_from_false (list_any (same_text n) (ns ++ name ∷ [])) none) (distinct_with ns name parts.1 aparts.1)

pub differs_turned : (a b : List ℕ) → same_text a b ≡ false → same_text b a ≡ false
differs_turned a b apart = elim (cases_Bool (same_text b a)) [
  | inl same ↦ let turned = ap (λ x. same_text x b) (sym (same_text_is b a same)) ∙ same_text_itself b in cc
  | inr other ↦ other
]

-- columns that repeat none: each differs from those seen and from the later ones
pub record AreApart (seen cs : List ColDef) : Type 0 where
  pub distinct : are_distinct (map (λ c. c.name) cs) ≡ true
  pub unseen : list_all (λ d. not (list_any (λ e. same_text d.name e.name) seen)) cs ≡ true

pub later_differ : (seen : List ColDef) (c : ColDef) (cs : List ColDef) → list_all (λ d. not (list_any (λ e. same_text d.name e.name) (seen ++ c ∷ []))) cs ≡ true
    → (list_any (same_text c.name) (map (λ d. d.name) cs) ≡ false) × (list_all (λ d. not (list_any (λ e. same_text d.name e.name) seen)) cs ≡ true)
later_differ seen c [] apart = (refl, refl)
later_differ seen c (d ∷ ds) apart =
    let parts = and_parts (not (list_any (λ e. same_text d.name e.name) (seen ++ c ∷ []))) (list_all (λ x. not (list_any (λ e. same_text x.name e.name) (seen ++ c ∷ []))) ds) apart in
    let none = or_parts (list_any (λ e. same_text d.name e.name) seen) (same_text d.name c.name || false)
    (sym (list_any-append (λ e. same_text d.name e.name) seen (c ∷ [])) ∙ not-true _ parts.0) in
    let rest = later_differ seen c ds parts.1 in (
      or_from (same_text c.name d.name) _ (differs_turned d.name c.name (or_parts (same_text d.name c.name) false none.1).0) rest.0,
      and_from _ _ (not_from_false (list_any (λ e. same_text d.name e.name) seen) none.0) rest.1,
    )

pub none_repeated : (seen cs : List ColDef) → first_repeated seen cs ≡ None → AreApart seen cs
none_repeated seen [] none = record { distinct = refl; unseen = refl }
none_repeated seen (c ∷ cs) none = elim (cases_Bool (list_any (λ e. same_text c.name e.name) seen)) [
  | inl taken ↦ let here : Some c.name ≡ None = sym (cond-true (list_any (λ e. same_text c.name e.name) seen) (Some c.name) (first_repeated (seen ++ c ∷ []) cs) taken) ∙ none in cc
  | inr fresh ↦ let rest = none_repeated (seen ++ c ∷ []) cs (sym (cond-false (list_any (λ e. same_text c.name e.name) seen) (Some c.name) (first_repeated (seen ++ c ∷ []) cs) fresh) ∙ none) in
      let differ = later_differ seen c cs rest.unseen in
      record {
        distinct = and_from _ _ (not_from_false (list_any (same_text c.name) (map (λ d. d.name) cs)) differ.0) rest.distinct;
        unseen = and_from _ _ (not_from_false (list_any (λ e. same_text c.name e.name) seen) fresh) differ.1;
      }
]
