-- Reading the users of a path, one by one.
use Rattle.std.proofs.Common.{◌≡◌, ℕ, Bool, true, false, cond, List, [], ◌∷◌, Some, None, refl, ap, ◌∙◌}
use Rattle.std.specs.Prelude.{codes}
use Rattle.std.proofs.lemmas.Bool.{cond-true, cond-false}
use Rattle.bdb_lex.specs.declared.token.Token.{Token}
use Rattle.bdb_lex.specs.declared.token.Token.TheVariants.{Word, Text}
use Rattle.bdb_syntax.specs.Keywords.{is_keyword}
use Rattle.bdb_parse.specs.Reading.{believer, beliefs_at}

pub some_of_cond : {X : Type 0} (b : Bool) (x y : X) → cond b (Some x) None ≡ Some y → (b ≡ true) × (x ≡ y)
some_of_cond true x y e = (refl, cc)
some_of_cond false x y e = cc

pub none_of_cond : {X : Type 0} (b : Bool) (x : X) → cond b (Some x) None ≡ None → b ≡ false
none_of_cond true x e = cc
none_of_cond false x e = refl

pub beliefs_more : (a b : Token) (ts : List Token) (t : List ℕ) → believer a b ≡ Some t → beliefs_at (a ∷ b ∷ ts) ≡ (t ∷ (beliefs_at ts).0, (beliefs_at ts).1)
beliefs_more (Word w) (Text u) ts t e =
    let h = some_of_cond (is_keyword (codes "belief") w) u t e in
    cond-true (is_keyword (codes "belief") w) _ _ h.0 ∙ ap (λ v. (v ∷ (beliefs_at ts).0, (beliefs_at ts).1)) h.1
beliefs_more _ _ ts t e = cc

pub beliefs_end : (a b : Token) (ts : List Token) → believer a b ≡ None → beliefs_at (a ∷ b ∷ ts) ≡ ([], a ∷ b ∷ ts)
beliefs_end (Word w) (Text u) ts e = cond-false (is_keyword (codes "belief") w) _ _ (none_of_cond _ u e)
beliefs_end _ _ ts e = refl
