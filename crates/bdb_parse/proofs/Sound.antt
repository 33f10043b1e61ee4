-- What is read is in the grammar, definition by definition.
use Rattle.std.proofs.Common.{◌≡◌, ℕ, Bool, true, false, cond, List, [], ◌∷◌, ◌++◌, Option, Some, None, refl, sym, ap, ◌∙◌, subst, inl, inr}
use Rattle.std.specs.Prelude.{codes}
use Rattle.std.proofs.lemmas.Bool.{cases_Bool}
use Rattle.bdb_base.specs.declared.kinds.Cmp.{Cmp}
use Rattle.bdb_base.specs.declared.kinds.Cmp.TheVariants as signs
use Rattle.bdb_base.proofs.OptionLemmas.{same_some}
use Rattle.bdb_lex.specs.declared.token.Token.{Token}
use Rattle.bdb_lex.specs.declared.token.Token.TheVariants.{Word, Text, Comma, Dot, ParenL, ParenR, Eq, Ne, Lt, Le, Gt, Ge}
use Rattle.bdb_syntax.specs.Keywords.{is_keyword, is_reserved}
use Rattle.bdb_parse.specs.declared.stop.Stop.{Stop}
use Rattle.bdb_parse.specs.declared.stop.Stop.TheVariants as stops
use Rattle.bdb_parse.specs.declared.target.Target.{Target}
use Rattle.bdb_parse.specs.Stops.{is_stop, cut, parts}
use Rattle.bdb_parse.specs.Grammar.{◌▸◌, IsToken, IsKeyword, IsName, AreSeparated, AreRepeated, IsBelief, IsSign, cmp_token, IsTarget}
use Rattle.bdb_parse.specs.Reading.{◌>>=◌, end_at, word_at, text_at, dot_at, equals_at, open_at, cmp_at, keyword_at, name_at, sign_of, sign_at, all_of, list_of, target_at, beliefs_at}
use Rattle.bdb_parse.proofs.CutLemmas.{parts_after, parts_cut, cut_head_stop, cut_head_other}
use Rattle.bdb_parse.proofs.BeliefLemmas.{some_of_cond}
use Rattle.bdb_parse.proofs.FilledLemmas.{Each, each_behind, each_at}

-- a token in front of what Q has
pub token_then : (P Q : List Token → Type 0) (ts : List Token) (t : Token) (rest : List Token) → ts ≡ t ∷ rest → P (t ∷ []) → Q rest → (P ▸ Q) ts
token_then P Q ts t rest e p q = (t ∷ [], rest, e, p, q)

pub end_is : (ts rest : List Token) → end_at ts ≡ Some rest → ts ≡ []
end_is [] rest e = refl
end_is (t ∷ ts) rest e = cc

pub word_is : (ts : List Token) (x : List ℕ × List Token) → word_at ts ≡ Some x → ts ≡ Word x.0 ∷ x.1
word_is (Word w ∷ ts) x e =
    let h : ◌≡◌ {A = List ℕ × List Token} (w, ts) x = cc in ap (λ (p : List ℕ × List Token). Word p.0 ∷ p.1) h
word_is _ x e = cc

pub text_is : (ts : List Token) (x : List ℕ × List Token) → text_at ts ≡ Some x → ts ≡ Text x.0 ∷ x.1
text_is (Text w ∷ ts) x e =
    let h : ◌≡◌ {A = List ℕ × List Token} (w, ts) x = cc in ap (λ (p : List ℕ × List Token). Text p.0 ∷ p.1) h
text_is _ x e = cc

pub dot_is : (ts rest : List Token) → dot_at ts ≡ Some rest → ts ≡ Dot ∷ rest
dot_is (Dot ∷ ts) rest e = let h : ts ≡ rest = cc in ap (λ r. Dot ∷ r) h
dot_is _ rest e = cc

pub equals_is : (ts rest : List Token) → equals_at ts ≡ Some rest → ts ≡ Eq ∷ rest
equals_is (Eq ∷ ts) rest e = let h : ts ≡ rest = cc in ap (λ r. Eq ∷ r) h
equals_is _ rest e = cc

pub open_is : (ts rest : List Token) → open_at ts ≡ Some rest → ts ≡ ParenL ∷ rest
open_is (ParenL ∷ ts) rest e = let h : ts ≡ rest = cc in ap (λ r. ParenL ∷ r) h
open_is _ rest e = cc

pub cmp_is : (ts : List Token) (x : Cmp × List Token) → cmp_at ts ≡ Some x → ts ≡ cmp_token x.0 ∷ x.1
cmp_is (Eq ∷ ts) x e = let h : ◌≡◌ {A = Cmp × List Token} (signs.Eq, ts) x = cc in ap (λ (p : Cmp × List Token). cmp_token p.0 ∷ p.1) h
cmp_is (Ne ∷ ts) x e = let h : ◌≡◌ {A = Cmp × List Token} (signs.Ne, ts) x = cc in ap (λ (p : Cmp × List Token). cmp_token p.0 ∷ p.1) h
cmp_is (Lt ∷ ts) x e = let h : ◌≡◌ {A = Cmp × List Token} (signs.Lt, ts) x = cc in ap (λ (p : Cmp × List Token). cmp_token p.0 ∷ p.1) h
cmp_is (Le ∷ ts) x e = let h : ◌≡◌ {A = Cmp × List Token} (signs.Le, ts) x = cc in ap (λ (p : Cmp × List Token). cmp_token p.0 ∷ p.1) h
cmp_is (Gt ∷ ts) x e = let h : ◌≡◌ {A = Cmp × List Token} (signs.Gt, ts) x = cc in ap (λ (p : Cmp × List Token). cmp_token p.0 ∷ p.1) h
cmp_is (Ge ∷ ts) x e = let h : ◌≡◌ {A = Cmp × List Token} (signs.Ge, ts) x = cc in ap (λ (p : Cmp × List Token). cmp_token p.0 ∷ p.1) h
cmp_is _ x e = cc

pub some_of_both : {X Y : Type 0} (o : Option X) (k : X → Option Y) (y : Y) → (o >>= k) ≡ Some y → (x : X) × (o ≡ Some x) × (k x ≡ Some y)
some_of_both None k y e = cc
some_of_both (Some x) k y e = (x, refl, e)

none_some_of_cond : {X : Type 0} (b : Bool) (x y : X) → cond b None (Some x) ≡ Some y → (b ≡ false) × (x ≡ y)
none_some_of_cond true x y e = cc
none_some_of_cond false x y e = (refl, cc)

pub keyword_is : (keyword : List ℕ) (ts rest : List Token) → keyword_at keyword ts ≡ Some rest → (word : List ℕ) × (ts ≡ Word word ∷ rest) × (is_keyword keyword word ≡ true)
unfolding keyword_at
keyword_is keyword ts rest e =
    let h = some_of_both (word_at ts) (λ (x : List ℕ × List Token). cond (is_keyword keyword x.0) (Some x.1) None) rest e in
    let p = some_of_cond (is_keyword keyword h.0.0) h.0.1 rest h.2 in
    (h.0.0, word_is ts h.0 h.1 ∙ ap (λ r. Word h.0.0 ∷ r) p.1, p.0)

pub name_is : (ts : List Token) (x : List ℕ × List Token) → name_at ts ≡ Some x → (ts ≡ Word x.0 ∷ x.1) × (is_reserved x.0 ≡ false)
unfolding name_at
name_is ts x e =
    let h = some_of_both (word_at ts) (λ (y : List ℕ × List Token). cond (is_reserved y.0) None (Some y)) x e in
    let p = none_some_of_cond (is_reserved h.0.0) h.0 x h.2 in (
      word_is ts h.0 h.1
          ∙ ap (λ (y : List ℕ × List Token). Word y.0 ∷ y.1) p.1,
      subst (λ (y : List ℕ × List Token). is_reserved y.0 ≡ false) p.1 p.0,
    )

pub keyword_then : (keyword : List ℕ) (Q : List Token → Type 0) (ts rest : List Token) → keyword_at keyword ts ≡ Some rest → Q rest → (IsKeyword keyword ▸ Q) ts
keyword_then keyword Q ts rest e q =
    let h = keyword_is keyword ts rest e in (Word h.0 ∷ [], rest, h.1, (h.0, refl, h.2), q)

-- a word that was tested
pub word_then : (keyword : List ℕ) (Q : List Token → Type 0) (ts : List Token) (x : List ℕ × List Token) → word_at ts ≡ Some x → is_keyword keyword x.0 ≡ true → Q x.1 → (IsKeyword keyword ▸ Q) ts
word_then keyword Q ts x e k q =
    (Word x.0 ∷ [], x.1, word_is ts x e, (x.0, refl, k), q)

pub name_then : (Q : List Token → Type 0) (ts : List Token) (x : List ℕ × List Token) → name_at ts ≡ Some x → Q x.1 → (IsName x.0 ▸ Q) ts
name_then Q ts x e q =
    let h = name_is ts x e in (Word x.0 ∷ [], x.1, h.0, (refl, h.1), q)

-- a name, and nothing behind it
pub name_whole : (ts : List Token) (x : List ℕ × List Token) (rest : List Token) → name_at ts ≡ Some x → end_at x.1 ≡ Some rest → IsName x.0 ts
name_whole ts x rest e f =
    let h = name_is ts x e in (h.0 ∙ ap (λ r. Word x.0 ∷ r) (end_is x.1 rest f), h.1)

belief_step : (Q : List Token → Type 0) (w t : List ℕ) (ts : List Token) (b : Bool) → is_keyword (codes "belief") w ≡ b → (Q (beliefs_at ts).1 → (AreRepeated IsBelief (beliefs_at ts).0 ▸ Q) ts) → Q (cond {A = List (List ℕ) × List Token} b (t ∷ (beliefs_at ts).0, (beliefs_at ts).1) ([], Word w ∷ Text t ∷ ts)).1 → (AreRepeated IsBelief (cond {A = List (List ℕ) × List Token} b (t ∷ (beliefs_at ts).0, (beliefs_at ts).1) ([], Word w ∷ Text t ∷ ts)).0 ▸ Q) (Word w ∷ Text t ∷ ts)
belief_step Q w t ts true e ih q =
    let h = ih q in
    (Word w ∷ Text t ∷ h.0, h.1, ap (λ (r : List Token). Word w ∷ Text t ∷ r) h.2, (Word w ∷ Text t ∷ [], h.0, refl, (Word w ∷ [], Text t ∷ [], refl, (w, refl, e), refl), h.3), h.4)
belief_step Q w t ts false e ih q = ([], Word w ∷ Text t ∷ ts, refl, refl, q)

pub beliefs_then : (Q : List Token → Type 0) (ts : List Token) → Q (beliefs_at ts).1 → (AreRepeated IsBelief (beliefs_at ts).0 ▸ Q) ts
beliefs_then Q (Word w ∷ Text t ∷ ts) q =
    belief_step Q w t ts (is_keyword (codes "belief") w) refl (beliefs_then Q ts) q
beliefs_then Q ts q = ([], ts, refl, refl, q)

sign_step : (Q : List Token → Type 0) (ts : List Token) (o : Option (List Token)) → keyword_at (codes "not") ts ≡ o → Q (sign_of ts o).1 → (IsSign (sign_of ts o).0 ▸ Q) ts
sign_step Q ts None e q = ([], ts, refl, refl, q)
sign_step Q ts (Some rest) e q = keyword_then (codes "not") Q ts rest e q

pub sign_then : (Q : List Token → Type 0) (ts : List Token) → Q (sign_at ts).1 → (IsSign (sign_at ts).0 ▸ Q) ts
unfolding sign_at
sign_then Q ts q = sign_step Q ts (keyword_at (codes "not") ts) refl q

pub target_then : (Q : List Token → Type 0) (ts : List Token) (x : Target × List Token) → target_at ts ≡ Some x → Q x.1 → IsTarget x.0.users x.0.sign x.0.rel Q ts
unfolding target_at
target_then Q ts x e =
    let sign = sign_at (beliefs_at ts).1 in
    let made : List ℕ × List Token → Target × List Token = λ rel. (record { users = (beliefs_at ts).0; sign = sign.0; rel = rel.0 }, rel.1) in
    let h = some_of_both (name_at sign.1) (λ rel. Some (made rel)) x e in
    let F : Target × List Token → Type 0 = λ y. Q y.1 → IsTarget y.0.users y.0.sign y.0.rel Q ts in
    subst F (same_some (made h.0) x h.2) (λ q. beliefs_then (IsSign sign.0 ▸ IsName h.0.0 ▸ Q) ts (sign_then (IsName h.0.0 ▸ Q) (beliefs_at ts).1 (name_then Q sign.1 h.0 h.1 q)))

pub cut_none : (stop : Stop) (ts : List Token) → (cut stop ts).1 ≡ None → ts ≡ (cut stop ts).0
cut_none stop [] e = refl
cut_none stop (t ∷ ts) e =
    elim (cases_Bool (is_stop stop t)) [
      | inl b ↦ let h : ◌≡◌ {A = Option (List Token)} (Some ts) None = sym (ap (λ (c : List Token × Option (List Token)). c.1) (cut_head_stop stop t ts b)) ∙ e in cc
      | inr b ↦ let f = cut_head_other stop t ts b in
          ap (λ (r : List Token). t ∷ r) (cut_none stop ts (sym (ap (λ (c : List Token × Option (List Token)). c.1) f) ∙ e)) ∙ sym (ap (λ (c : List Token × Option (List Token)). c.0) f)
    ]

pub cut_some : (stop : Stop) (ts rest : List Token) → (cut stop ts).1 ≡ Some rest → (t : Token) × (ts ≡ (cut stop ts).0 ++ t ∷ rest) × (is_stop stop t ≡ true)
cut_some stop [] rest e = cc
cut_some stop (t ∷ ts) rest e =
    elim (cases_Bool (is_stop stop t)) [
      | inl b ↦ let f = cut_head_stop stop t ts b in
          let h : ts ≡ rest = same_some _ _ (sym (ap (λ (c : List Token × Option (List Token)). c.1) f) ∙ e) in
          (t, ap (λ (r : List Token). t ∷ r) h ∙ ap (λ (c : List Token × Option (List Token)). c.0 ++ t ∷ rest) (sym f), b)
      | inr b ↦ let f = cut_head_other stop t ts b in
          let h = cut_some stop ts rest (sym (ap (λ (c : List Token × Option (List Token)). c.1) f) ∙ e) in
          (h.0, ap (λ (r : List Token). t ∷ r) h.1 ∙ ap (λ (c : List Token × Option (List Token)). c.0 ++ h.0 ∷ rest) (sym f), h.2)
    ]

-- a stop behind what P has
pub cut_then : (P S Q : List Token → Type 0) (stop : Stop) → ((t : Token) → is_stop stop t ≡ true → S (t ∷ [])) → (ts rest : List Token) → (cut stop ts).1 ≡ Some rest → P (cut stop ts).0 → Q rest → (P ▸ S ▸ Q) ts
cut_then P S Q stop s ts rest e p q =
    let h = cut_some stop ts rest e in
    ((cut stop ts).0, h.0 ∷ rest, h.1, p, (h.0 ∷ [], rest, refl, s h.0 h.2, q))

pub comma_is : (t : Token) → is_stop stops.Comma t ≡ true → IsToken Comma (t ∷ [])
comma_is Comma e = refl
comma_is _ e = cc

pub close_is : (t : Token) → is_stop stops.Close t ≡ true → IsToken ParenR (t ∷ [])
close_is ParenR e = refl
close_is _ e = cc

pub and_is : (t : Token) → is_stop stops.And t ≡ true → IsKeyword (codes "and") (t ∷ [])
and_is (Word w) e = (w, refl, e)
and_is _ e = cc

pub from_is : (t : Token) → is_stop stops.From t ≡ true → IsKeyword (codes "from") (t ∷ [])
from_is (Word w) e = (w, refl, e)
from_is _ e = cc

pub where_is : (t : Token) → is_stop stops.Where t ≡ true → IsKeyword (codes "where") (t ∷ [])
where_is (Word w) e = (w, refl, e)
where_is _ e = cc

more_separated : {X : Type 0} (P : X → List Token → Type 0) (S : List Token → Type 0) (ts p r : List Token) (t : Token) (x : X) (xs : List X) → ts ≡ p ++ t ∷ r → S (t ∷ []) → P x p → AreSeparated P S xs r → AreSeparated P S (x ∷ xs) ts
more_separated P S ts p r t x [] e s h i = absurd i
more_separated P S ts p r t x (y ∷ ys) e s h i = (p, t ∷ r, e, h, (t ∷ [], r, refl, s, i))

after_sound : {X : Type 0} (P : X → List Token → Type 0) (S : List Token → Type 0) (read : List Token → Option X) (stop : Stop) → ((ts : List Token) → Each (λ x. P x ts) (read ts)) → ((t : Token) → is_stop stop t ≡ true → S (t ∷ [])) → (ps : List (List Token)) (ts : List Token) (x : X) (o : Option (List Token)) → (cut stop ts).1 ≡ o → ps ≡ parts_after stop o → P x (cut stop ts).0 → ((us : List Token) → parts stop us ≡ ps → Each (λ xs. AreSeparated P S xs us) (all_of read ps)) → Each (λ xs. AreSeparated P S xs ts) (all_of read ps >>= λ xs. Some (x ∷ xs))
after_sound {X} P S read stop r s ps ts x None e f p ih =
    let F : List (List Token) → Type 0 = λ qs. Each (λ (xs : List X). AreSeparated P S xs ts) (all_of read qs >>= λ xs. Some (x ∷ xs)) in
    subst F (sym f) (subst (P x) (sym (cut_none stop ts e)) p)
after_sound {X} P S read stop r s ps ts x (Some rest) e f p ih =
    let h = cut_some stop ts rest e in
    each_behind (λ (xs : List X). AreSeparated P S xs ts) (all_of read ps) _ (λ xs g.
    more_separated P S ts (cut stop ts).0 rest h.0 x xs h.1 (s h.0 h.2) p (each_at (λ (ys : List X). AreSeparated P S ys rest) _ xs (ih rest (sym f)) g))

parts_sound : {X : Type 0} (P : X → List Token → Type 0) (S : List Token → Type 0) (read : List Token → Option X) (stop : Stop) → ((ts : List Token) → Each (λ x. P x ts) (read ts)) → ((t : Token) → is_stop stop t ≡ true → S (t ∷ [])) → (ps : List (List Token)) (ts : List Token) → parts stop ts ≡ ps → Each (λ xs. AreSeparated P S xs ts) (all_of read ps)
parts_sound P S read stop r s [] ts e =
    let h : ◌≡◌ {A = List (List Token)} ((cut stop ts).0 ∷ parts_after stop (cut stop ts).1) [] = sym (parts_cut stop ts) ∙ e in cc
parts_sound {X} P S read stop r s (p ∷ ps) ts e =
    let h : ◌≡◌ {A = List (List Token)} ((cut stop ts).0 ∷ parts_after stop (cut stop ts).1) (p ∷ ps) = sym (parts_cut stop ts) ∙ e in
    let first : p ≡ (cut stop ts).0 = cc in
    let others : ps ≡ parts_after stop (cut stop ts).1 = cc in
    each_behind (λ (xs : List X). AreSeparated P S xs ts) (read p) _ (λ x g.
    after_sound P S read stop r s ps ts x (cut stop ts).1 refl others (subst (P x) first (each_at (λ (y : X). P y p) _ x (r p) g)) (parts_sound P S read stop r s ps))

pub list_sound : {X : Type 0} (P : X → List Token → Type 0) (S : List Token → Type 0) (read : List Token → Option X) (stop : Stop) → ((ts : List Token) → Each (λ x. P x ts) (read ts)) → ((t : Token) → is_stop stop t ≡ true → S (t ∷ [])) → (ts : List Token) → Each (λ xs. AreSeparated P S xs ts) (list_of read stop ts)
unfolding list_of
list_sound P S read stop r s ts = parts_sound P S read stop r s (parts stop ts) ts refl
