-- Statements with one more, or one less, differ from those before in one tuple at one path.
use Rattle.std.proofs.Common.{◌≡◌, ℕ, true, false, ◌&&◌, nat_eq, List, refl, sym, ◌∙◌}
use Rattle.std.proofs.lemmas.Bool.{false≢true, false_from_ne_true, and_parts, and_from, eq-eqb}
use Rattle.bdb_base.specs.Clash.{clash, key_of}
use Rattle.bdb_base.specs.Same.{same_path, same_values}
use Rattle.bdb_base.specs.SameLemmas.{same_path-Decides, same_values-Decides}
use Rattle.bdb_base.specs.declared.kinds.Sign.{Sign}
use Rattle.bdb_base.specs.declared.kinds.Stmt.{Stmt}
use Rattle.bdb_base.specs.declared.tuple.Tuple.{Tuple}
use Rattle.bdb_base.proofs.ClashLemmas.{clash_is_symmetric}
use Rattle.bdb_tables.proofs.SignLemmas.{put_unfelt, drop_unfelt, put_keeps_sign, drop_keeps_sign}
use Rattle.bdb_val.proofs.WalkLemmas.{is_group}
use Rattle.bdb_update.specs.Differing.{is_like}
use Rattle.bdb_update.specs.ChangeLaws.{PutDiffersAt, DropDiffersAt}

pub like_itself : (keys : ℕ → ℕ) (u : Tuple) → is_like keys u u ≡ true
like_itself keys u = and_from (nat_eq u.rel u.rel) (same_values (key_of keys u) (key_of keys u)) (eq-eqb u.rel u.rel refl) ((same_values-Decides (key_of keys u) (key_of keys u)).1 refl)

-- it contradicts no tuple of another relation or key, and nothing at another path
no_bar : (keys : ℕ → ℕ) (x : Stmt) (v : List ℕ) (y : Tuple) (s : Sign) → (same_path v x.path && is_like keys x.tuple y) ≡ false → (same_path x.path v && clash keys y s x.tuple x.sign) ≡ false
no_bar keys x v y s out = false_from_ne_true (same_path x.path v && clash keys y s x.tuple x.sign) (λ e.
    let a = and_parts (same_path x.path v) (clash keys y s x.tuple x.sign) e in
    let p : v ≡ x.path = sym ((same_path-Decides x.path v).0 a.0) in
    let c : clash keys x.tuple x.sign y s ≡ true = clash_is_symmetric keys x.tuple y x.sign s ∙ a.1 in
    let g : is_like keys x.tuple y ≡ true = is_group keys x.tuple.rel (key_of keys x.tuple) x.tuple y x.sign s (like_itself keys x.tuple) c in
    false≢true (sym out ∙ and_from (same_path v x.path) (is_like keys x.tuple y) ((same_path-Decides v x.path).1 p) g))

pub put_differs_at : PutDiffersAt
put_differs_at keys xs x = record {
  signs = λ v y out. put_keeps_sign xs x v y out;
  bars = λ v y s out. put_unfelt (λ z. same_path z.path v && clash keys y s z.tuple z.sign) xs x (no_bar keys x v y s out);
}

pub drop_differs_at : DropDiffersAt
drop_differs_at keys xs x = record {
  signs = λ v y out. drop_keeps_sign xs x v y out;
  bars = λ v y s out. drop_unfelt (λ z. same_path z.path v && clash keys y s z.tuple z.sign) xs x (no_bar keys x v y s out);
}
