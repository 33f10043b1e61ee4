-- Columns that are the same, and comparisons that link them.
use Rattle.std.proofs.Common.{◌≡◌, ◌∙◌, true, sym, ap}
use Rattle.std.proofs.lemmas.Bool.{and_from, or_left, or_right}
use Rattle.bdb_base.specs.declared.kinds.Cond.{Cond}
use Rattle.bdb_base.specs.declared.kinds.Operand.TheVariants.{Col}
use Rattle.bdb_base.specs.declared.kinds.Ref.{Ref}
use Rattle.bdb_base.specs.Safety.{same_column, is_equality, is_column, is_literal, pins, links}
use Rattle.bdb_base.proofs.ConditionLemmas.{same_column_itself}

pub same_column_from : (r s : Ref) → r ≡ s → same_column r s ≡ true
same_column_from r s e = ap (same_column r) (sym e) ∙ same_column_itself r

-- an equality whose left side is one column and whose right side is another
pub linked_left : (c : Cond) (r s : Ref) → is_equality c.cmp ≡ true → c.left ≡ r → c.right ≡ Col s → links r s c ≡ true
linked_left c r s eq left right =
    and_from _ _ eq (or_left _ _ (and_from _ _ (same_column_from r c.left (sym left)) (ap (is_column s) right ∙ same_column_itself s)))

pub linked_right : (c : Cond) (r s : Ref) → is_equality c.cmp ≡ true → c.left ≡ s → c.right ≡ Col r → links r s c ≡ true
linked_right c r s eq left right =
    and_from _ _ eq (or_right _ _ (and_from _ _ (same_column_from s c.left (sym left)) (ap (is_column r) right ∙ same_column_itself r)))

pub pinned_left : (c : Cond) (r : Ref) → is_equality c.cmp ≡ true → c.left ≡ r → is_literal c.right ≡ true → pins r c ≡ true
pinned_left c r eq left right = and_from _ _ eq (and_from _ _ (same_column_from r c.left (sym left)) right)
