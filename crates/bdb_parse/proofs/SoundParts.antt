-- What is read of the parts of a command is in the grammar.
use Rattle.std.proofs.Common.{◌≡◌, ◌⊎◌, ℕ, ℤ, Bool, true, false, not, ◌&&◌, cond, List, [], ◌∷◌, ◌++◌, Option, Some, None, refl, sym, ap, ◌∙◌, subst, inl, inr, append_assoc}
use Rattle.std.specs.Prelude.{codes}
use Rattle.std.proofs.lemmas.List.{append-nil}
use Rattle.std.proofs.lemmas.Bool.{and_parts, not-true}
use Rattle.bdb_base.specs.declared.kinds.Value.{Value}
use Rattle.bdb_base.specs.declared.kinds.Value.TheVariants as values
use Rattle.bdb_base.specs.declared.kinds.Kind.{Kind}
use Rattle.bdb_base.specs.declared.kinds.Kind.TheVariants as kinds
use Rattle.bdb_base.specs.declared.kinds.ColDef.{ColDef}
use Rattle.bdb_base.proofs.OptionLemmas.{same_some}
use Rattle.bdb_lex.specs.declared.token.Token.{Token}
use Rattle.bdb_lex.specs.declared.token.Token.TheVariants.{Word, Text, Num, Dot, ParenL, ParenR, Eq}
use Rattle.bdb_syntax.specs.declared.command.RawCol.{RawCol}
use Rattle.bdb_syntax.specs.declared.command.RawSide.{RawSide}
use Rattle.bdb_syntax.specs.declared.command.RawSide.TheVariants as sides
use Rattle.bdb_syntax.specs.declared.command.RawCond.{RawCond}
use Rattle.bdb_syntax.specs.declared.command.RawWho.{RawWho}
use Rattle.bdb_syntax.specs.declared.command.RawWho.TheVariants as whos
use Rattle.bdb_syntax.specs.declared.command.RawItem.{RawItem}
use Rattle.bdb_syntax.specs.declared.command.RawSet.{RawSet}
use Rattle.bdb_syntax.specs.Keywords.{is_keyword, is_reserved}
use Rattle.bdb_parse.specs.declared.stop.Stop.TheVariants as stops
use Rattle.bdb_parse.specs.Numbers.{number_written}
use Rattle.bdb_parse.specs.Stops.{is_stop, cut}
use Rattle.bdb_parse.specs.Grammar.{◌▸◌, IsNothing, IsToken, IsKeyword, IsName, IsNumToken, IsKeyClause, IsLiteral, AreSeparated, AreRepeated, IsSign, IsKind, IsColumn, cmp_token, IsBareCol, IsFullCol, IsSide, IsCond, AreConds, IsSet, IsItemBelief, IsAlias, IsItem}
use Rattle.bdb_parse.specs.Reading.{end_at, word_at, dot_at, equals_at, open_at, cmp_at, keyword_at, name_at, literal_of, sign_at, set_of, bare_of, col_at, col_of, begins_with_word, side_of, test_of, cond_of, conds_of, inside_at, inside_of, num_of, key_of, column_of, kind_of, past, alias_of, item_of, whos_at}
use Rattle.bdb_parse.proofs.FilledLemmas.{Each, each_behind, each_map, each_cond, each_at}
use Rattle.bdb_parse.proofs.Sound.{end_is, word_is, dot_is, equals_is, open_is, cmp_is, some_of_both, name_is, token_then, keyword_then, name_then, name_whole, sign_then, cut_none, cut_some, close_is, and_is, where_is, list_sound}

pub literal_sound : (ts : List Token) → Each (λ v. IsLiteral v ts) (literal_of number_written ts)
literal_sound (Text t ∷ []) = refl
literal_sound (Num s ∷ []) =
    each_map (λ (v : Value). IsLiteral v (Num s ∷ [])) values.Int (number_written s) (λ n e. (s, refl, e))
literal_sound _ = tt

kind_cases : (b c : Bool) (k : Kind) → cond b (Some kinds.Int) (cond c (Some kinds.Text) None) ≡ Some k → ((b ≡ true) × (kinds.Int ≡ k)) ⊎ ((c ≡ true) × (kinds.Text ≡ k))
kind_cases true c k e = inl (refl, cc)
kind_cases false true k e = inr (refl, cc)
kind_cases false false k e = cc

kind_is : (w : List ℕ) (k : Kind) → kind_of w ≡ Some k → IsKind k (Word w ∷ [])
unfolding kind_of
kind_is w k e =
    elim (kind_cases (is_keyword (codes "int") w) (is_keyword (codes "text") w) k e) [
      | inl h ↦ subst (λ (x : Kind). IsKind x (Word w ∷ [])) h.1 (w, refl, h.0)
      | inr h ↦ subst (λ (x : Kind). IsKind x (Word w ∷ [])) h.1 (w, refl, h.0)
    ]

pub column_sound : (ts : List Token) → Each (λ c. IsColumn c ts) (column_of ts)
unfolding column_of
column_sound ts =
    let P : ColDef → Type 0 = λ c. IsColumn c ts in
    each_behind P (name_at ts) _ (λ name e.
    each_behind P (word_at name.1) _ (λ word f.
    each_behind P (end_at word.1) _ (λ rest g.
    each_behind P (kind_of word.0) _ (λ kind h.
    name_then (IsKind kind) ts name e (subst (IsKind kind) (sym (word_is name.1 word f ∙ ap (λ (r : List Token). Word word.0 ∷ r) (end_is word.1 rest g))) (kind_is word.0 kind h))))))

pub set_sound : (ts : List Token) → Each (λ s. IsSet s ts) (set_of number_written ts)
unfolding set_of
set_sound ts =
    let P : RawSet → Type 0 = λ s. IsSet s ts in
    each_behind P (name_at ts) _ (λ col e.
    each_behind P (equals_at col.1) _ (λ rest f.
    each_behind P (literal_of number_written rest) _ (λ value g.
    name_then (IsToken Eq ▸ IsLiteral value) ts col e
    (token_then (IsToken Eq) (IsLiteral value) col.1 Eq rest (equals_is col.1 rest f) refl
    (each_at (λ (v : Value). IsLiteral v rest) _ value (literal_sound rest) g)))))

bare_sound : (ts : List Token) → Each (λ c. IsBareCol c ts) (bare_of ts)
unfolding bare_of
bare_sound ts =
    let P : RawCol → Type 0 = λ c. IsBareCol c ts in
    each_behind P (name_at ts) _ (λ name e. each_behind P (end_at name.1) _ (λ rest f. (refl, name_whole ts name rest e f)))

-- a column behind an alias, at the front
full_front : (ts rest : List Token) (x : RawCol × List Token) → col_at ts ≡ Some x → (front : List Token) × (ts ≡ front ++ x.1) × IsFullCol x.0 front
unfolding col_at
full_front ts rest x e =
    let h = some_of_both (name_at ts) _ x e in
    let i = some_of_both (dot_at h.0.1) _ x h.2 in
    let made : List ℕ × List Token → RawCol × List Token = λ c. (record { alias = Some h.0.0; col = c.0 }, c.1) in
    let j = some_of_both (name_at i.0) (λ c. Some (made c)) x i.2 in
    let a = name_is ts h.0 h.1 in
    let c = name_is i.0 j.0 j.1 in
    let whole : ts ≡ Word h.0.0 ∷ Dot ∷ Word j.0.0 ∷ j.0.1 = a.0 ∙ ap (λ (r : List Token). Word h.0.0 ∷ r) (dot_is h.0.1 i.0 i.1 ∙ ap (λ (r : List Token). Dot ∷ r) c.0) in
    let F : RawCol × List Token → Type 0 = λ y. (front : List Token) × (ts ≡ front ++ y.1) × IsFullCol y.0 front in
    subst F (same_some (made j.0) x j.2)
    (Word h.0.0 ∷ Dot ∷ Word j.0.0 ∷ [], whole, (h.0.0, refl, (Word h.0.0 ∷ [], Dot ∷ Word j.0.0 ∷ [], refl, (refl, a.1), (Dot ∷ [], Word j.0.0 ∷ [], refl, refl, (refl, c.1)))))

full_then : (Q : List Token → Type 0) (ts : List Token) (x : RawCol × List Token) → col_at ts ≡ Some x → Q x.1 → (IsFullCol x.0 ▸ Q) ts
full_then Q ts x e q = let h = full_front ts [] x e in (h.0, x.1, h.1, h.2, q)

append_none : (ts : List Token) → ts ++ [] ≡ ts
append_none ts = append-nil ts

pub full_sound : (ts : List Token) → Each (λ c. IsFullCol c ts) (col_of ts)
unfolding col_of
full_sound ts =
    let P : RawCol → Type 0 = λ c. IsFullCol c ts in
    each_behind P (col_at ts) _ (λ col e. each_behind P (end_at col.1) _ (λ rest f.
    let h = full_front ts [] col e in
    subst (IsFullCol col.0) (sym (h.1 ∙ (ap (λ (r : List Token). h.0 ++ r) (end_is col.1 rest f) ∙ append_none h.0))) h.2))

side_sound : (IsCol : RawCol → List Token → Type 0) (column : List Token → Option RawCol) → ((ts : List Token) → Each (λ c. IsCol c ts) (column ts)) → (ts : List Token) → Each (λ s. IsSide IsCol s ts) (side_of column number_written ts)
unfolding side_of
side_sound IsCol column r ts =
    let P : RawSide → Type 0 = λ s. IsSide IsCol s ts in
    each_cond P (begins_with_word ts) _ _
    (each_map P sides.Col (column ts) (λ c e. each_at (λ (x : RawCol). IsCol x ts) _ c (r ts) e))
    (each_map P sides.Lit (literal_of number_written ts) (λ v e. each_at (λ (x : Value). IsLiteral x ts) _ v (literal_sound ts) e))

pub test_sound : (ts : List Token) → Each (λ c. IsCond IsBareCol c ts) (test_of number_written ts)
unfolding test_of
test_sound ts =
    let P : RawCond → Type 0 = λ c. IsCond IsBareCol c ts in
    each_behind P (name_at ts) _ (λ left e.
    each_behind P (cmp_at left.1) _ (λ cmp f.
    each_behind P (side_of bare_of number_written cmp.1) _ (λ right g.
    let n = name_is ts left e in (
      Word left.0 ∷ [],
      left.1,
      n.0,
      (refl, (refl, n.1)),
      token_then (IsToken (cmp_token cmp.0)) (IsSide IsBareCol right) left.1 (cmp_token cmp.0) cmp.1 (cmp_is left.1 cmp f) refl
          (each_at (λ (s : RawSide). IsSide IsBareCol s cmp.1) _ right (side_sound IsBareCol bare_of bare_sound cmp.1) g),
    ))))

pub cond_sound : (ts : List Token) → Each (λ c. IsCond IsFullCol c ts) (cond_of number_written ts)
unfolding cond_of
cond_sound ts =
    let P : RawCond → Type 0 = λ c. IsCond IsFullCol c ts in
    each_behind P (col_at ts) _ (λ left e.
    each_behind P (cmp_at left.1) _ (λ cmp f.
    each_behind P (side_of col_of number_written cmp.1) _ (λ right g.
    full_then (IsToken (cmp_token cmp.0) ▸ IsSide IsFullCol right) ts left e
    (token_then (IsToken (cmp_token cmp.0)) (IsSide IsFullCol right) left.1 (cmp_token cmp.0) cmp.1 (cmp_is left.1 cmp f) refl
    (each_at (λ (s : RawSide). IsSide IsFullCol s cmp.1) _ right (side_sound IsFullCol col_of full_sound cmp.1) g)))))

-- what a cut at 'where' leaves behind it
conds_step : (IsCol : RawCol → List Token → Type 0) (us rest : List Token) (t : Token) (conds : List RawCond) → us ≡ t ∷ rest → is_stop stops.Where t ≡ true → AreSeparated (IsCond IsCol) (IsKeyword (codes "and")) conds rest → AreConds IsCol conds us
conds_step IsCol us rest t [] e w a = absurd a
conds_step IsCol us rest t (c ∷ cs) e w a = (t ∷ [], rest, e, where_is t w, a)

pub conds_then : (P : List Token → Type 0) (IsCol : RawCol → List Token → Type 0) (read : List Token → Option RawCond) → ((ts : List Token) → Each (λ c. IsCond IsCol c ts) (read ts)) → (ts : List Token) (conds : List RawCond) (o : Option (List Token)) → (cut stops.Where ts).1 ≡ o → conds_of read o ≡ Some conds → P (cut stops.Where ts).0 → (P ▸ AreConds IsCol conds) ts
conds_then P IsCol read r ts conds None e f p =
    let none : [] ≡ conds = same_some _ _ f in
    subst (λ (cs : List RawCond). (P ▸ AreConds IsCol cs) ts) none (ts, [], sym (append_none ts), subst P (sym (cut_none stops.Where ts e)) p, refl)
conds_then P IsCol read r ts conds (Some rest) e f p =
    let h = cut_some stops.Where ts rest e in
    let a = each_at (λ (cs : List RawCond). AreSeparated (IsCond IsCol) (IsKeyword (codes "and")) cs rest) _ conds (list_sound (IsCond IsCol) (IsKeyword (codes "and")) read stops.And r and_is rest) f in
    ((cut stops.Where ts).0, h.0 ∷ rest, h.1, p, conds_step IsCol (h.0 ∷ rest) rest h.0 conds refl h.2 a)

who_step : (Q : List Token → Type 0) (ts back : List Token) (b : Bool) (who : RawWho) (front : List Token) → (b ≡ true → IsItemBelief who front) → (Q (whos_at ts).1 → (AreRepeated IsItemBelief (whos_at ts).0 ▸ Q) ts) → back ≡ front ++ ts → Q (cond {A = List RawWho × List Token} b (who ∷ (whos_at ts).0, (whos_at ts).1) ([], back)).1 → (AreRepeated IsItemBelief (cond {A = List RawWho × List Token} b (who ∷ (whos_at ts).0, (whos_at ts).1) ([], back)).0 ▸ Q) back
who_step Q ts back true who front p ih e q =
    let h = ih q in
    (front ++ h.0, h.1, e ∙ (ap (λ (r : List Token). front ++ r) h.2 ∙ sym (append_assoc front h.0 h.1)), (front, h.0, refl, p refl, h.3), h.4)
who_step Q ts back false who front p ih e q = ([], back, refl, refl, q)

whos_then : (Q : List Token → Type 0) (ts : List Token) → Q (whos_at ts).1 → (AreRepeated IsItemBelief (whos_at ts).0 ▸ Q) ts
whos_then Q (Word w ∷ Text t ∷ ts) q =
    who_step Q ts (Word w ∷ Text t ∷ ts) (is_keyword (codes "belief") w) (whos.Name t) (Word w ∷ Text t ∷ [])
    (λ e. (Word w ∷ [], Text t ∷ [], refl, (w, refl, e), refl)) (whos_then Q ts) refl q
whos_then Q (Word w ∷ Word a ∷ Dot ∷ Word c ∷ ts) q =
    who_step Q ts (Word w ∷ Word a ∷ Dot ∷ Word c ∷ ts) (is_keyword (codes "belief") w && (not (is_reserved a) && not (is_reserved c))) (whos.Col (record { alias = Some a; col = c })) (Word w ∷ Word a ∷ Dot ∷ Word c ∷ [])
    (λ e. let h = and_parts (is_keyword (codes "belief") w) (not (is_reserved a) && not (is_reserved c)) e in
    let i = and_parts (not (is_reserved a)) (not (is_reserved c)) h.1 in
    (Word w ∷ [], Word a ∷ Dot ∷ Word c ∷ [], refl, (w, refl, h.0), (a, refl, (Word a ∷ [], Dot ∷ Word c ∷ [], refl, (refl, not-true _ i.0), (Dot ∷ [], Word c ∷ [], refl, refl, (refl, not-true _ i.1))))))
    (whos_then Q ts) refl q
whos_then Q ts q = ([], ts, refl, refl, q)

past_step : (rel alias : List ℕ) (ts : List Token) (o : Option (List Token)) → keyword_at (codes "as") ts ≡ o → IsName alias (past ts o) → IsAlias rel alias ts
past_step rel alias ts None e n = inr (inl n)
past_step rel alias ts (Some rest) e n = inr (inr (keyword_then (codes "as") (IsName alias) ts rest e n))

alias_sound : (rel : List ℕ) (ts : List Token) → Each (λ a. IsAlias rel a ts) (alias_of rel ts)
unfolding alias_of
alias_sound rel [] = inl (refl, refl)
alias_sound rel (t ∷ ts) =
    let P : List ℕ → Type 0 = λ a. IsAlias rel a (t ∷ ts) in
    let rest = past (t ∷ ts) (keyword_at (codes "as") (t ∷ ts)) in
    each_behind P (name_at rest) _ (λ name e. each_behind P (end_at name.1) _ (λ end f.
    past_step rel name.0 (t ∷ ts) (keyword_at (codes "as") (t ∷ ts)) refl (name_whole rest name end e f)))

pub item_sound : (ts : List Token) → Each (λ i. IsItem i ts) (item_of ts)
unfolding item_of
item_sound ts =
    let P : RawItem → Type 0 = λ i. IsItem i ts in
    let path = whos_at ts in
    let sign = sign_at path.1 in
    each_behind P (name_at sign.1) _ (λ rel e. each_behind P (alias_of rel.0 rel.1) _ (λ alias f.
    let After = IsAlias rel.0 alias in
    whos_then (IsSign sign.0 ▸ IsName rel.0 ▸ After) ts (sign_then (IsName rel.0 ▸ After) path.1 (name_then After sign.1 rel e
    (each_at (λ (a : List ℕ). IsAlias rel.0 a rel.1) _ alias (alias_sound rel.0 rel.1) f)))))

-- a list in parentheses, and what is behind it
pub parens_then : (P Q : List Token → Type 0) (ts : List Token) (x : List Token × List Token) → inside_at ts ≡ Some x → P x.0 → Q x.1
    → (IsToken ParenL ▸ P ▸ IsToken ParenR ▸ Q) ts
unfolding inside_at
parens_then P Q ts x e p q =
    let h = some_of_both (open_at ts) _ x e in
    let made : List Token → List Token × List Token = λ after. ((cut stops.Close h.0).0, after) in
    let i = some_of_both (cut stops.Close h.0).1 (λ after. Some (made after)) x h.2 in
    let same : made i.0 ≡ x = same_some _ _ i.2 in
    let k = cut_some stops.Close h.0 i.0 i.1 in
    token_then (IsToken ParenL) (P ▸ IsToken ParenR ▸ Q) ts ParenL h.0 (open_is ts h.0 h.1) refl (
      (cut stops.Close h.0).0,
      k.0 ∷ i.0,
      k.1,
      subst (λ (y : List Token × List Token). P y.0) (sym same) p,
      (k.0 ∷ [], i.0, refl, close_is k.0 k.2, subst (λ (y : List Token × List Token). Q y.1) (sym same) q),
    )

-- a list in parentheses that takes up the whole
pub inside_then : (P : List Token → Type 0) (ts inside : List Token) → inside_of ts ≡ Some inside → P inside → (IsToken ParenL ▸ P ▸ IsToken ParenR) ts
unfolding inside_of
inside_then P ts inside e p =
    let h = some_of_both (inside_at ts) _ inside e in
    let i = some_of_both (end_at h.0.1) (λ _. Some h.0.0) inside h.2 in
    let w = parens_then P IsNothing ts h.0 h.1 (subst P (sym (same_some _ _ i.2)) p) (end_is h.0.1 i.0 i.1) in
    let r = w.4.4 in
    let last : w.4.1 ≡ ParenR ∷ [] = r.2 ∙ (ap (λ (f : List Token). f ++ r.1) r.3 ∙ ap (λ (t : List Token). ParenR ∷ t) r.4) in
    (w.0, w.1, w.2, w.3, (w.4.0, w.4.1, w.4.2, w.4.3, last))

num_sound : (ts : List Token) → Each (λ n. IsNumToken n ts) (num_of number_written ts)
num_sound (Num s ∷ []) = each_of (number_written s) refl
  where
    each_of : (o : Option ℤ) → number_written s ≡ o → Each (λ n. IsNumToken n (Num s ∷ [])) o
    each_of None e = tt
    each_of (Some n) e = (s, refl, e)
num_sound _ = tt

pub key_sound : (ts : List Token) → Each (λ key. IsKeyClause key ts) (key_of number_written ts)
unfolding key_of
key_sound [] = refl
key_sound (t ∷ ts) =
    let P : Option ℤ → Type 0 = λ key. IsKeyClause key (t ∷ ts) in
    each_behind P (keyword_at (codes "key") (t ∷ ts)) _ (λ rest e.
    each_map P (λ n. Some n) (num_of number_written rest) (λ n f.
    keyword_then (codes "key") (IsNumToken n) (t ∷ ts) rest e (each_at (λ (m : ℤ). IsNumToken m rest) _ n (num_sound rest) f)))
