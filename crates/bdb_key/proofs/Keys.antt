-- Keys of one shape.
use Rattle.std.proofs.Common.{◌≡◌, ℕ, List, [], ◌∷◌, ◌++◌, refl, sym, ap, ◌∙◌}
use Rattle.std.specs.declared.cmp.Ordering.TheVariants.{Less, Greater}
use Rattle.std.specs.Ordering.{nat_cmp, ordering_then}
use Rattle.std.specs.Cmp.Lexicographic.{slice_cmp}
use Rattle.std.specs.List.{AllByRecursion}
use Rattle.std.specs.FinMap.{IsAntisymmetric, slice_cmp-IsAntisymmetric, nat_cmp-IsAntisymmetric}
use Rattle.bdb_base.specs.declared.kinds.Value.TheVariants.{Int, Text}
use Rattle.bdb_key.specs.declared.part.Part.{Part}
use Rattle.bdb_key.specs.declared.part.Part.TheVariants as parts
use Rattle.bdb_key.specs.declared.part.Slot.{Slot}
use Rattle.bdb_key.specs.declared.part.Slot.TheVariants as slots
use Rattle.bdb_key.specs.Bytes.{vals_bytes, part_bytes, key_bytes}
use Rattle.bdb_key.specs.Grammar.{AreKeyVals, FitsSlot, IsOne, IsKey}
use Rattle.bdb_key.specs.Laws.{KeysHaveOneSpelling, KeysKeepOrder}
use Rattle.bdb_key.specs.Order.{part_cmp, key_cmp}
use Rattle.bdb_key.specs.Reading.{Leads, NoneLeads, Reads, NoneReads}
use Rattle.bdb_key.proofs.Compared.{nums, values, lists, paths, values_tie, lists_tie, paths_tie}
use Rattle.bdb_key.proofs.Forms.{Compares, one_form, tied}
use Rattle.bdb_key.proofs.Readings.{IsForm}

pub parts_compare : (slot : Slot) → Compares (FitsSlot slot) part_bytes part_cmp
parts_compare slots.Num (parts.Num m) (parts.Num n) x y fa fb = nums m n x y fa fb
parts_compare slots.Num (parts.Num m) b x y fa fb = absurd fb
parts_compare slots.Num a b x y fa fb = absurd fa
parts_compare slots.Val (parts.Val v) (parts.Val w) x y fa fb = values v w x y fa fb
parts_compare slots.Val (parts.Val v) b x y fa fb = absurd fb
parts_compare slots.Val a b x y fa fb = absurd fa
parts_compare slots.Vals (parts.Vals v) (parts.Vals w) x y fa fb = lists v w x y fa fb
parts_compare slots.Vals (parts.Vals v) b x y fa fb = absurd fb
parts_compare slots.Vals a b x y fa fb = absurd fa
parts_compare slots.Path (parts.Path p) (parts.Path q) x y fa fb = paths p q x y fa fb
parts_compare slots.Path (parts.Path p) b x y fa fb = absurd fb
parts_compare slots.Path a b x y fa fb = absurd fa
parts_compare slots.Rest (parts.Val v) (parts.Val w) x y fa fb = values v w x y fa fb
parts_compare slots.Rest (parts.Val v) b x y fa fb = absurd fb
parts_compare slots.Rest a b x y fa fb = absurd fa

parts_tie : IsAntisymmetric part_cmp
parts_tie (parts.Num m) (parts.Num n) e = ap parts.Num (nat_cmp-IsAntisymmetric m n e)
parts_tie (parts.Num m) (parts.Val w) e = absurd cc
parts_tie (parts.Num m) (parts.Vals b) e = absurd cc
parts_tie (parts.Num m) (parts.Path q) e = absurd cc
parts_tie (parts.Val v) (parts.Num n) e = absurd cc
parts_tie (parts.Val v) (parts.Val w) e = ap parts.Val (values_tie v w e)
parts_tie (parts.Val v) (parts.Vals b) e = absurd cc
parts_tie (parts.Val v) (parts.Path q) e = absurd cc
parts_tie (parts.Vals a) (parts.Num n) e = absurd cc
parts_tie (parts.Vals a) (parts.Val w) e = absurd cc
parts_tie (parts.Vals a) (parts.Vals b) e = ap parts.Vals (lists_tie a b e)
parts_tie (parts.Vals a) (parts.Path q) e = absurd cc
parts_tie (parts.Path p) (parts.Num n) e = absurd cc
parts_tie (parts.Path p) (parts.Val w) e = absurd cc
parts_tie (parts.Path p) (parts.Vals b) e = absurd cc
parts_tie (parts.Path p) (parts.Path q) e = ap parts.Path (paths_tie p q e)

part_some : (a : Part) (more : List ℕ) → [] ≡ part_bytes a ++ more → ⊥
part_some (parts.Num n) more e = cc
part_some (parts.Val (Int m)) more e = cc
part_some (parts.Val (Text t)) more e = cc
part_some (parts.Vals v) more e = cc
part_some (parts.Path p) more e = cc

pub part_forms : (slot : Slot) → IsForm (FitsSlot slot) part_bytes
part_forms slot = record { form = one_form (FitsSlot slot) part_bytes part_cmp (parts_compare slot) parts_tie; some = part_some }

nothing_less : (q : Part) (b : List Part) → slice_cmp nat_cmp [] (part_bytes q ++ key_bytes b) ≡ Less
nothing_less (parts.Num n) b = refl
nothing_less (parts.Val (Int n)) b = refl
nothing_less (parts.Val (Text t)) b = refl
nothing_less (parts.Vals v) b = refl
nothing_less (parts.Path p) b = refl

some_greater : (p : Part) (a : List Part) → slice_cmp nat_cmp (part_bytes p ++ key_bytes a) [] ≡ Greater
some_greater (parts.Num n) a = refl
some_greater (parts.Val (Int n)) a = refl
some_greater (parts.Val (Text t)) a = refl
some_greater (parts.Vals v) a = refl
some_greater (parts.Path p) a = refl

rest_in_order : (a b : List Part) → AllByRecursion (FitsSlot slots.Rest) a → AllByRecursion (FitsSlot slots.Rest) b → slice_cmp nat_cmp (key_bytes a) (key_bytes b) ≡ key_cmp a b
rest_in_order [] [] fa fb = refl
rest_in_order [] (q ∷ b) fa fb = nothing_less q b
rest_in_order (p ∷ a) [] fa fb = some_greater p a
rest_in_order (p ∷ a) (q ∷ b) fa fb =
    parts_compare slots.Rest p q (key_bytes a) (key_bytes b) fa.0 fb.0 ∙ ap (λ o. ordering_then (part_cmp p q) o) (rest_in_order a b fa.1 fb.1)

step : (slot : Slot) (p q : Part) (a b : List Part) → FitsSlot slot p → FitsSlot slot q → slice_cmp nat_cmp (key_bytes a) (key_bytes b) ≡ key_cmp a b
    → slice_cmp nat_cmp (key_bytes (p ∷ a)) (key_bytes (q ∷ b)) ≡ key_cmp (p ∷ a) (q ∷ b)
step slot p q a b fp fq e = parts_compare slot p q (key_bytes a) (key_bytes b) fp fq ∙ ap (λ o. ordering_then (part_cmp p q) o) e

pub keys_keep_order : KeysKeepOrder
keys_keep_order [] [] [] fa fb = refl
keys_keep_order [] [] (q ∷ b) fa fb = absurd fb
keys_keep_order [] (p ∷ a) b fa fb = absurd fa
keys_keep_order (slots.Rest ∷ shape) a b fa fb = rest_in_order a b fa fb
keys_keep_order (slots.Num ∷ shape) (p ∷ a) (q ∷ b) fa fb = step slots.Num p q a b fa.0 fb.0 (keys_keep_order shape a b fa.1 fb.1)
keys_keep_order (slots.Num ∷ shape) (p ∷ a) [] fa fb = absurd fb
keys_keep_order (slots.Num ∷ shape) [] b fa fb = absurd fa
keys_keep_order (slots.Val ∷ shape) (p ∷ a) (q ∷ b) fa fb = step slots.Val p q a b fa.0 fb.0 (keys_keep_order shape a b fa.1 fb.1)
keys_keep_order (slots.Val ∷ shape) (p ∷ a) [] fa fb = absurd fb
keys_keep_order (slots.Val ∷ shape) [] b fa fb = absurd fa
keys_keep_order (slots.Vals ∷ shape) (p ∷ a) (q ∷ b) fa fb = step slots.Vals p q a b fa.0 fb.0 (keys_keep_order shape a b fa.1 fb.1)
keys_keep_order (slots.Vals ∷ shape) (p ∷ a) [] fa fb = absurd fb
keys_keep_order (slots.Vals ∷ shape) [] b fa fb = absurd fa
keys_keep_order (slots.Path ∷ shape) (p ∷ a) (q ∷ b) fa fb = step slots.Path p q a b fa.0 fb.0 (keys_keep_order shape a b fa.1 fb.1)
keys_keep_order (slots.Path ∷ shape) (p ∷ a) [] fa fb = absurd fb
keys_keep_order (slots.Path ∷ shape) [] b fa fb = absurd fa

pub keys_have_one_spelling : KeysHaveOneSpelling
keys_have_one_spelling shape a b fa fb e =
    slice_cmp-IsAntisymmetric parts_tie a b (sym (keys_keep_order shape a b fa fb) ∙ tied (key_bytes a) (key_bytes b) e)

-- ---- reading a key slot by slot

-- where no list of values is, no part for one is
pub vals_none : (bytes : List ℕ) → NoneLeads AreKeyVals vals_bytes bytes → NoneLeads (FitsSlot slots.Vals) part_bytes bytes
vals_none bytes none (parts.Vals values) rest h = none values rest (record { fits = h.fits; split = h.split })
vals_none bytes none part rest h = h.fits

key_of_step : (slot : Slot) (shape : List Slot) (part : Part) (key : List Part) → IsOne slot → FitsSlot slot part → IsKey shape key → IsKey (slot ∷ shape) (part ∷ key)
key_of_step slots.Num shape part key one f h = (f, h)
key_of_step slots.Val shape part key one f h = (f, h)
key_of_step slots.Vals shape part key one f h = (f, h)
key_of_step slots.Path shape part key one f h = (f, h)
key_of_step slots.Rest shape part key one f h = absurd one

step_of_key : (slot : Slot) (shape : List Slot) (part : Part) (key : List Part) → IsOne slot → IsKey (slot ∷ shape) (part ∷ key) → FitsSlot slot part × IsKey shape key
step_of_key slots.Num shape part key one h = h
step_of_key slots.Val shape part key one h = h
step_of_key slots.Vals shape part key one h = h
step_of_key slots.Path shape part key one h = h
step_of_key slots.Rest shape part key one h = absurd one

no_part : (slot : Slot) (shape : List Slot) → IsOne slot → IsKey (slot ∷ shape) [] → ⊥
no_part slots.Num shape one h = h
no_part slots.Val shape one h = h
no_part slots.Vals shape one h = h
no_part slots.Path shape one h = h
no_part slots.Rest shape one h = one

module _ (slot : Slot) (shape : List Slot) (one : IsOne slot) where
  pub key_more : (bytes rest : List ℕ) (part : Part) (key : List Part) → Leads (FitsSlot slot) part_bytes bytes part rest → Reads (IsKey shape) key_bytes rest key
      → Reads (IsKey (slot ∷ shape)) key_bytes bytes (part ∷ key)
  key_more bytes rest part key l r = record {
    fits = key_of_step slot shape part key one l.fits r.fits;
    spelled = ap (λ (x : List ℕ). part_bytes part ++ x) r.spelled ∙ sym l.split;
  }

  pub key_none_here : (bytes : List ℕ) → NoneLeads (FitsSlot slot) part_bytes bytes → NoneReads (IsKey (slot ∷ shape)) key_bytes bytes
  key_none_here bytes none [] h = no_part slot shape one h.fits
  key_none_here bytes none (p ∷ key) h = none p (key_bytes key) (record { fits = (step_of_key slot shape p key one h.fits).0; split = sym h.spelled })

  pub key_none_after : (bytes rest : List ℕ) (part : Part) → Leads (FitsSlot slot) part_bytes bytes part rest → NoneReads (IsKey shape) key_bytes rest
      → NoneReads (IsKey (slot ∷ shape)) key_bytes bytes
  key_none_after bytes rest part l none [] h = no_part slot shape one h.fits
  key_none_after bytes rest part l none (p ∷ key) h =
      let f = step_of_key slot shape p key one h.fits in
      let form = (part_forms slot).form p part (key_bytes key) rest f.0 l.fits (h.spelled ∙ l.split) in
      none key (record { fits = f.1; spelled = form.1 })
