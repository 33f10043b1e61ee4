-- A test that is another one decides what that one decides; and a base's certificates.
use Rattle.std.proofs.Common.{◌≡◌, ◌∙◌, Bool, true, sym, ap, subst, List, ℕ}
use Rattle.std.specs.Bool.{Decides}
use Rattle.bdb_base.specs.declared.kinds.Catalog.{Catalog}
use Rattle.bdb_base.specs.declared.kinds.Sign.{Sign}
use Rattle.bdb_base.specs.declared.kinds.Stmt.{Stmt}
use Rattle.bdb_base.specs.declared.tuple.Tuple.{Tuple}
use Rattle.bdb_base.specs.Bases.{IsValid, key_lengths}
use Rattle.bdb_base.specs.Worlds.{believes}
use Rattle.bdb_base.proofs.WorldLemmas.{valid_is_consistent}
use Rattle.bdb_why.specs.declared.kinds.Why.{Why}
use Rattle.bdb_why.specs.Accepting.{accepts}
use Rattle.bdb_why.specs.Certificates.{says, why_of}
use Rattle.bdb_why.proofs.AcceptLemmas.{accepted_is_belief, check_is_exact}
use Rattle.bdb_why.proofs.LengthLemmas.{accepts_by_length}

-- what is accepted by the length of one relation's key is accepted
accepted_here : (keys : ℕ → ℕ) (n : ℕ) (stmts given : List Stmt) (w : List ℕ) (t : Tuple) (s : Sign) (y : Why) (b : Bool) → n ≡ keys t.rel → given ≡ stmts
    → b ≡ accepts (λ _. n) given w t s y → b ≡ accepts keys stmts w t s y
accepted_here keys n stmts given w t s y b length same e =
    e ∙ ap (λ k. accepts (λ _. k) given w t s y) length ∙ ap (λ xs. accepts (λ _. keys t.rel) xs w t s y) same ∙ accepts_by_length keys stmts w t s y

pub checked_exactly : (c : Catalog) (n : ℕ) (stmts given : List Stmt) (w : List ℕ) (t : Tuple) (s : Sign) (y : Why) (b : Bool) → IsValid c stmts → n ≡ key_lengths c.rels t.rel → given ≡ stmts
    → b ≡ accepts (λ _. n) given w t s y → Decides b (y ≡ why_of (key_lengths c.rels) stmts w t s)
checked_exactly c n stmts given w t s y b valid length same e =
    let keys = key_lengths c.rels in
    let exact : Decides (accepts keys stmts w t s y) (y ≡ why_of keys stmts w t s) = check_is_exact keys stmts (valid_is_consistent c stmts valid) w t s y in
    subst (λ p. Decides p (y ≡ why_of keys stmts w t s)) (sym (accepted_here keys n stmts given w t s y b length same e)) exact

pub checked_belief : (c : Catalog) (n : ℕ) (stmts given : List Stmt) (w : List ℕ) (t : Tuple) (s : Sign) (y : Why) (b : Bool) → IsValid c stmts → n ≡ key_lengths c.rels t.rel → given ≡ stmts
    → b ≡ accepts (λ _. n) given w t s y → b ≡ true → says y ≡ believes (key_lengths c.rels) stmts w t s
checked_belief c n stmts given w t s y b valid length same e h =
    let keys = key_lengths c.rels in
    accepted_is_belief keys stmts (valid_is_consistent c stmts valid) w t s y (sym (accepted_here keys n stmts given w t s y b length same e) ∙ h)
