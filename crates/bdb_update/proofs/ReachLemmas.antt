-- Worlds that come and go, and their rows.
use Rattle.std.proofs.Common.{◌≡◌, ℕ, Bool, true, false, ◌&&◌, nat_eq, cond, List, [], ◌∷◌, Option, Some, None, refl, ap, sym, ◌∙◌, arith, inl, inr}
use Rattle.std.proofs.lemmas.Bool.{cases_Bool}
use Rattle.std.proofs.lemmas.Bool.Decides.{nat_tests}
use Rattle.bdb_base.specs.Same.{same_tuple, same_sign}
use Rattle.bdb_base.specs.States.{is_state, deepest_suffix}
use Rattle.bdb_base.specs.Worlds.{explicit, stated}
use Rattle.bdb_base.specs.declared.kinds.Sign.{Sign}
use Rattle.bdb_base.specs.declared.kinds.Sign.TheVariants.{Plus, Minus}
use Rattle.bdb_base.specs.declared.kinds.Stmt.{Stmt}
use Rattle.bdb_base.specs.declared.tuple.Tuple.{Tuple}
use Rattle.bdb_base.proofs.WorldLemmas.{plain_inheritance, nothing_stands}
use Rattle.bdb_paths.proofs.SuffixLemmas.{deepest_here, deepest_past}
use Rattle.bdb_tables.specs.InUse.{meta_codec, user_codec, rel_codec, plain_codec}
use Rattle.bdb_tables.specs.Marks.{sign_by, sign_in, marked}
use Rattle.bdb_tables.specs.Rows.{row_named}
use Rattle.bdb_tables.specs.Stored.{is_table}
use Rattle.bdb_val.specs.Settled.{HasStates}
use Rattle.bdb_update.specs.ChangeLaws.{is_of_worlds, inherited, OtherWorldsStore, WorldGoesWithRows, WorldComesWithRows, PlainWorldInherits}
use Rattle.bdb_tables.proofs.SameLemmas.{gives_still, tuples_still}

-- a table of worlds is one of the twelve
no_world_table : (n : ℕ) → is_table n ≡ false → is_of_worlds n ≡ false
no_world_table n h = grind (arith, nat_tests)

pub other_worlds_store : OtherWorldsStore
other_worlds_store reached others told ns ms ts t u b h states worlds rows same = record {
  format = gives_still is_of_worlds t u same meta_codec _ refl h.format;
  users = gives_still is_of_worlds t u same user_codec _ refl h.users;
  rels = gives_still is_of_worlds t u same rel_codec _ refl h.rels;
  tuples = tuples_still is_of_worlds t u same told ts refl refl h.tuples;
  states = states;
  worlds = worlds;
  rows = rows;
  plain = gives_still is_of_worlds t u same plain_codec _ refl h.plain;
  outside = λ n k out. same n k (no_world_table n out) ∙ h.outside n k out;
}

pub world_goes_with_rows : WorldGoesWithRows
world_goes_with_rows keys stmts ns tuple n p k = by (nat_eq k.0 n)
  where
    by : (b : Bool) → row_named keys stmts k (cond b None (ns.path k.0)) (tuple k.3) ≡ cond b None (row_named keys stmts k (ns.path k.0) (tuple k.3))
    by true = refl
    by false = refl

pub world_comes_with_rows : WorldComesWithRows
world_comes_with_rows keys stmts ns tuple n p k = by (nat_eq k.0 n)
  where
    by : (b : Bool) → row_named keys stmts k (cond b (Some p) (ns.path k.0)) (tuple k.3) ≡ cond b (row_named keys stmts k (Some p) (tuple k.3)) (row_named keys stmts k (ns.path k.0) (tuple k.3))
    by true = refl
    by false = refl

-- a path has what the deepest of its ends in a set with all states has
stated_deepest : (keys : ℕ → ℕ) (stmts : List Stmt) (P : List ℕ → Bool) → HasStates stmts P → (w : List ℕ) (u : Tuple) (s : Sign) → stated keys stmts w u s ≡ stated keys stmts (deepest_suffix P w) u s
stated_deepest keys stmts P h [] u s = refl
stated_deepest keys stmts P h (i ∷ w) u s = elim (cases_Bool (P (i ∷ w))) [
  | inl e ↦ ap (λ v. stated keys stmts v u s) (sym (deepest_here P i w e))
  | inr e ↦
      let none : is_state stmts (i ∷ w) ≡ false = no_state e in
      plain_inheritance keys stmts (i ∷ w) none u s ∙ stated_deepest keys stmts P h w u s ∙ ap (λ v. stated keys stmts v u s) (sym (deepest_past P i w e))
]
  where
    no_state : P (i ∷ w) ≡ false → is_state stmts (i ∷ w) ≡ false
    no_state e = elim (cases_Bool (is_state stmts (i ∷ w))) [ inl a ↦ (let b : P (i ∷ w) ≡ true = h (i ∷ w) a in absurd cc) | inr a ↦ a ]

plain_mark : (f g : Sign → Bool) → ((s : Sign) → f s ≡ false) → (o : Option Sign) → marked f o ≡ inherited (marked g o)
plain_mark f g none None = refl
plain_mark f g none (Some s) = ap (λ (b : Bool). Some (s, b)) (none s)

pub plain_world_inherits : PlainWorldInherits
plain_world_inherits keys stmts P i w u has none =
    let d = deepest_suffix P w in
    let sign : (s : Sign) → stated keys stmts (i ∷ w) u s ≡ stated keys stmts d u s = λ s. plain_inheritance keys stmts (i ∷ w) none u s ∙ stated_deepest keys stmts P has w u s in
    ap (λ b. marked (explicit stmts (i ∷ w) u) (sign_by b (stated keys stmts (i ∷ w) u Minus))) (sign Plus)
    ∙ ap (λ b. marked (explicit stmts (i ∷ w) u) (sign_by (stated keys stmts d u Plus) b)) (sign Minus)
    ∙ plain_mark (explicit stmts (i ∷ w) u) (explicit stmts d u) (λ s. nothing_stands stmts i w (λ x. same_tuple x.tuple u && same_sign x.sign s) none) (sign_in keys stmts d u)
