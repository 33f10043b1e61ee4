-- States and tuples of statements with one more or one less.
use Rattle.std.proofs.Common.{◌≡◌, ℕ, Bool, true, not, List, [], ◌∷◌, refl, sym, ◌∙◌}
use Rattle.std.specs.List.{list_any}
use Rattle.std.specs.Ordering.{is_eq}
use Rattle.std.proofs.lemmas.Bool.{or_right}
use Rattle.bdb_base.specs.Bases.{with_statement, without_statement}
use Rattle.bdb_base.specs.Order.{statement_cmp}
use Rattle.bdb_base.specs.OrderLemmas.{statement_exact}
use Rattle.bdb_base.specs.Same.{same_tuple}
use Rattle.bdb_base.specs.Segments.{is_prefix}
use Rattle.bdb_base.specs.States.{is_state}
use Rattle.bdb_base.specs.declared.kinds.Stmt.{Stmt}
use Rattle.bdb_base.proofs.SetLemmas.{list_any-put_in}
use Rattle.bdb_tables.proofs.SignLemmas.{found_before, drop_unfelt}
use Rattle.bdb_update.specs.ChangeLaws.{PutIsWithin, DropIsWithin, DropLeavesStates, SameReachStores}

found_still : (p : Stmt → Bool) (stmts : List Stmt) (x : Stmt) → list_any p stmts ≡ true → list_any p (with_statement stmts x) ≡ true
found_still p stmts x e = list_any-put_in statement_exact p stmts x ∙ or_right (p x) (list_any p stmts) e

still_state : (stmts : List Stmt) (x : Stmt) (w : List ℕ) → is_state stmts w ≡ true → is_state (with_statement stmts x) w ≡ true
still_state stmts x [] e = refl
still_state stmts x (i ∷ w) e = found_still (λ z. is_prefix (i ∷ w) z.path) stmts x e

state_before : (stmts : List Stmt) (x : Stmt) (w : List ℕ) → is_state (without_statement stmts x) w ≡ true → is_state stmts w ≡ true
state_before stmts x [] e = refl
state_before stmts x (i ∷ w) e = found_before (λ z. is_prefix (i ∷ w) z.path) (λ y. not (is_eq (statement_cmp y x))) stmts e

pub put_is_within : PutIsWithin
put_is_within stmts x = record {
  states = λ w e. still_state stmts x w e;
  tuples = λ u e. found_still (λ z. same_tuple z.tuple u) stmts x e;
}

pub drop_is_within : DropIsWithin
drop_is_within stmts x = record {
  states = λ w e. state_before stmts x w e;
  tuples = λ u e. found_before (λ z. same_tuple z.tuple u) (λ y. not (is_eq (statement_cmp y x))) stmts e;
}

pub drop_leaves_states : DropLeavesStates
drop_leaves_states stmts x [] out = refl
drop_leaves_states stmts x (i ∷ w) out = drop_unfelt (λ z. is_prefix (i ∷ w) z.path) stmts x out

pub same_reach_stores : SameReachStores
same_reach_stores reached others told like ns ts t b h states tuples = record {
  format = h.format;
  users = h.users;
  rels = h.rels;
  tuples = record {
    tuples = h.tuples.tuples;
    numbers = h.tuples.numbers;
    named = h.tuples.named;
    numbered = h.tuples.numbered;
    sized = h.tuples.sized;
    stated = λ u. h.tuples.stated u ∙ sym (tuples u);
  };
  states = h.states;
  worlds = λ w. h.worlds w ∙ sym (states w);
  rows = h.rows;
  plain = h.plain;
  outside = h.outside;
}
