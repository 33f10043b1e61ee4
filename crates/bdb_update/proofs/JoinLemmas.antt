-- A base stays valid with a statement that passes no limit and clashes with none.
use Rattle.std.proofs.Common.{◌≡◌, ◌∙◌, ℕ, ◌+◌, ◌≤◌, Bool, true, false, ◌&&◌, nat_lt, cond, length, refl, ap, Some, None, arith}
use Rattle.std.specs.Prelude.{if◌then◌else◌}
use Rattle.bdb_base.specs.Bases.{Contents, IsValid, belongs, key_lengths, tuple_count, with_statement, world_count}
use Rattle.bdb_base.specs.Clash.{clash}
use Rattle.bdb_base.specs.Limits.{most_worlds, most_tuples, most_statements}
use Rattle.bdb_base.specs.Same.{same_path}
use Rattle.bdb_base.specs.declared.kinds.Stmt.{Stmt}
use Rattle.bdb_base.specs.declared.kinds.What.TheVariants.{Worlds, Tuples, Statements}
use Rattle.bdb_base.proofs.BaseLemmas.{put_counts_statement, put_is_valid}
use Rattle.bdb_canon.specs.Sizes.{counts_of}
use Rattle.bdb_update.specs.Calls.{clash_of, size_passed, with_one}
use Rattle.bdb_update.specs.Joining.{MayJoin}
use Rattle.bdb_base.proofs.FindLemmas.{none_found}
use Rattle.bdb_base.proofs.Numbers.{not_less}

-- the sizes that pass no limit
pub record AreWithin (w t s : ℕ) : Type 0 where
  pub worlds : w ≤ most_worlds
  pub tuples : t ≤ most_tuples
  pub stmts : s ≤ most_statements

within : (w t s : ℕ) → (if nat_lt most_worlds w then Some Worlds else (if nat_lt most_tuples t then Some Tuples else (if nat_lt most_statements s then Some Statements else None))) ≡ None → AreWithin w t s
within w t s e = by (nat_lt most_worlds w) (nat_lt most_tuples t) (nat_lt most_statements s) refl refl refl e
  where
    by : (a b c : Bool) → nat_lt most_worlds w ≡ a → nat_lt most_tuples t ≡ b → nat_lt most_statements s ≡ c
        → (if a then Some Worlds else (if b then Some Tuples else (if c then Some Statements else None))) ≡ None → AreWithin w t s
    by true b c x y z e = absurd cc
    by false true c x y z e = absurd cc
    by false false true x y z e = absurd cc
    by false false false x y z e = record { worlds = not_less most_worlds w x; tuples = not_less most_tuples t y; stmts = not_less most_statements s z }

pub may_join : (b : Contents) (x : Stmt) → IsValid b.catalog b.stmts → belongs b.catalog x ≡ true → clash_of b x ≡ None → size_passed (counts_of (with_one b x)) ≡ None → MayJoin b x
may_join b x valid belong apart room =
    let w = within (world_count (with_statement b.stmts x)) (tuple_count (with_statement b.stmts x)) (length (with_statement b.stmts x)) room in
    record {
      valid = valid;
      belongs = belong;
      next = put_is_valid b.catalog b.stmts x valid belong
          (none_found (λ y. same_path y.path x.path && clash (key_lengths b.catalog.rels) x.tuple x.sign y.tuple y.sign) b.stmts apart)
          (λ k. let e : length (with_statement b.stmts x) ≡ 1 + length b.stmts = put_counts_statement b.catalog b.stmts x valid ∙ ap (λ c. cond c 0 1 + length b.stmts) k in
          let f = w.stmts in omega arith)
          w.tuples w.worlds;
    }
