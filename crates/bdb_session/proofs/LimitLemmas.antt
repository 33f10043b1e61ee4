-- Which limit a base passes.
use Rattle.std.proofs.Common.{◌≡◌, ℕ, ◌≤◌, Bool, true, false, length, Option, Some, None, refl, ap, ◌∙◌, arith, ltb, leb}
use Rattle.std.specs.Prelude.{if◌then◌else◌}
use Rattle.std.proofs.lemmas.Bool.Decides.{nat_tests}
use Rattle.bdb_base.specs.declared.kinds.What.{What}
use Rattle.bdb_base.specs.declared.kinds.What.TheVariants.{Users, Relations, Worlds, Tuples, Statements}
use Rattle.bdb_base.specs.Bases.{Contents, IsValid, tuple_count, world_count}
use Rattle.bdb_base.specs.Limits.{most_users, most_relations, most_worlds, most_tuples, most_statements}
use Rattle.bdb_canon.specs.Sizes.{counts_of}
use Rattle.bdb_canon.specs.declared.sizes.Counts.{Counts}
use Rattle.bdb_session.specs.Sizes.{passed_limit, limit_passed}

-- what is at most a number isn't above it
pub above_false : (m n : ℕ) → leb n m ≡ true → ltb m n ≡ false
above_false m n h = grind (arith, nat_tests)

pub at_most : (m n : ℕ) → ltb m n ≡ false → n ≤ m
at_most m n h = grind (arith, nat_tests)

-- a valid base passes no limit
pub no_limit : (b : Contents) → IsValid b.catalog b.stmts → passed_limit b ≡ None
no_limit b valid =
    let users = above_false most_users (length b.catalog.users) valid.catalog.few_users in
    let rels = above_false most_relations (length b.catalog.rels) valid.catalog.few_rels in
    let worlds = above_false most_worlds (world_count b.stmts) valid.stmts.few_worlds in
    let tuples = above_false most_tuples (tuple_count b.stmts) valid.stmts.few_tuples in
    let stmts = above_false most_statements (length b.stmts) valid.stmts.few_stmts in
    rw (users, rels, worlds, tuples, stmts) refl

-- a base has no more of anything than it may
pub record IsWithin (b : Contents) : Type 0 where
  pub users : length b.catalog.users ≤ most_users
  pub rels : length b.catalog.rels ≤ most_relations
  pub worlds : world_count b.stmts ≤ most_worlds
  pub tuples : tuple_count b.stmts ≤ most_tuples
  pub stmts : length b.stmts ≤ most_statements

-- nothing is found: the first test fails, and nothing is found behind it
pub past : (t : Bool) (w : What) (rest : Option What) → (if t then Some w else rest) ≡ None → (t ≡ false) × (rest ≡ None)
past true w rest e = absurd cc
past false w rest e = (refl, e)

-- a base that passes no limit is within all
pub within_limits : (b : Contents) → passed_limit b ≡ None → IsWithin b
within_limits b e =
    let users = ltb most_users (length b.catalog.users) in
    let rels = ltb most_relations (length b.catalog.rels) in
    let worlds = ltb most_worlds (world_count b.stmts) in
    let tuples = ltb most_tuples (tuple_count b.stmts) in
    let stmts = ltb most_statements (length b.stmts) in
    let p = past users Users (if rels then Some Relations else (if worlds then Some Worlds else (if tuples then Some Tuples else (if stmts then Some Statements else None)))) e in
    let q = past rels Relations (if worlds then Some Worlds else (if tuples then Some Tuples else (if stmts then Some Statements else None))) p.1 in
    let r = past worlds Worlds (if tuples then Some Tuples else (if stmts then Some Statements else None)) q.1 in
    let s = past tuples Tuples (if stmts then Some Statements else None) r.1 in
    let t = past stmts Statements None s.1 in
    record {
      users = at_most most_users (length b.catalog.users) p.0;
      rels = at_most most_relations (length b.catalog.rels) q.0;
      worlds = at_most most_worlds (world_count b.stmts) r.0;
      tuples = at_most most_tuples (tuple_count b.stmts) s.0;
      stmts = at_most most_statements (length b.stmts) t.0;
    }

-- what comes of three sizes comes of the same ones
pub by_sizes : {X : Type 0} (f : ℕ → ℕ → Counts → X) (users rels m n : ℕ) (counts c : Counts) → users ≡ m → rels ≡ n → counts ≡ c
    → f users rels counts ≡ f m n c
by_sizes f users rels m n counts c by_users by_rels by_counts = ap (λ k. f k rels counts) by_users ∙ ap (λ k. f m k counts) by_rels ∙ ap (f m n) by_counts

-- the limit that is found by the counts of a base is the one that it passes
pub limit_is : (b : Contents) (o : Option What) (users rels : ℕ) (counts : Counts) → o ≡ limit_passed users rels counts
    → users ≡ length b.catalog.users → rels ≡ length b.catalog.rels → counts ≡ counts_of b → o ≡ passed_limit b
limit_is b o users rels counts e u r c = e ∙ by_sizes limit_passed users rels (length b.catalog.users) (length b.catalog.rels) counts (counts_of b) u r c
