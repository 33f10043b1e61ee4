-- Reading the users of a query's path, one by one.
use Rattle.std.proofs.Common.{◌≡◌, ◌<◌, not, ◌&&◌, List, [], ◌∷◌, ◌++◌, Option, Some, None, length, refl, sym, ap, ◌∙◌, arith, append_assoc}
use Rattle.std.specs.Prelude.{codes}
use Rattle.std.proofs.lemmas.Bool.{cond-true, cond-false}
use Rattle.std.proofs.lemmas.List.{append-nil}
use Rattle.bdb_base.proofs.OptionLemmas.{same_some}
use Rattle.bdb_lex.specs.declared.token.Token.{Token}
use Rattle.bdb_lex.specs.declared.token.Token.TheVariants.{Word, Text, Dot}
use Rattle.bdb_syntax.specs.declared.command.RawWho.{RawWho}
use Rattle.bdb_syntax.specs.declared.command.RawWho.TheVariants as whos
use Rattle.bdb_syntax.specs.Keywords.{is_keyword, is_reserved}
use Rattle.bdb_parse.specs.Reading.{who_at, whos_at}
use Rattle.bdb_parse.proofs.BeliefLemmas.{some_of_cond, none_of_cond}

pub whos_more : (ts : List Token) (x : RawWho) (rest : List Token) → who_at ts ≡ Some (x, rest) → (whos_at ts ≡ (x ∷ (whos_at rest).0, (whos_at rest).1)) × (length rest < length ts)
whos_more (Word w ∷ Text u ∷ ts) x rest e =
    let h = some_of_cond (is_keyword (codes "belief") w) (whos.Name u, ts) (x, rest) e in
    let same_rest : ts ≡ rest = ap (λ (p : RawWho × List Token). p.1) h.1 in
    let shorter : length ts ≡ length rest = ap length same_rest in
    (cond-true (is_keyword (codes "belief") w) _ _ h.0 ∙ ap (λ (p : RawWho × List Token). (p.0 ∷ (whos_at p.1).0, (whos_at p.1).1)) h.1, omega arith)
whos_more (Word w ∷ Word a ∷ Dot ∷ Word c ∷ ts) x rest e =
    let b = is_keyword (codes "belief") w && (not (is_reserved a) && not (is_reserved c)) in
    let h = some_of_cond b (whos.Col (record { alias = Some a; col = c }), ts) (x, rest) e in
    let same_rest : ts ≡ rest = ap (λ (p : RawWho × List Token). p.1) h.1 in
    let shorter : length ts ≡ length rest = ap length same_rest in
    (cond-true b _ _ h.0 ∙ ap (λ (p : RawWho × List Token). (p.0 ∷ (whos_at p.1).0, (whos_at p.1).1)) h.1, omega arith)
whos_more _ x rest e = cc

pub whos_end : (ts : List Token) → who_at ts ≡ None → whos_at ts ≡ ([], ts)
whos_end (Word w ∷ Text u ∷ ts) e =
    cond-false (is_keyword (codes "belief") w) _ _ (none_of_cond _ (whos.Name u, ts) e)
whos_end (Word w ∷ Word a ∷ Dot ∷ Word c ∷ ts) e =
    let b = is_keyword (codes "belief") w && (not (is_reserved a) && not (is_reserved c)) in
    cond-false b _ _ (none_of_cond b (whos.Col (record { alias = Some a; col = c }), ts) e)
whos_end _ e = refl

-- a loop that has read the users in front goes on with one more
pub whos_kept : (all : List RawWho × List Token) (front new : List RawWho) (ts : List Token) (o : Option (RawWho × List Token)) (x : RawWho) (rest : List Token) → (all.0 ≡ front ++ (whos_at ts).0) × (all.1 ≡ (whos_at ts).1) → Some (who_at ts) ≡ Some o → o ≡ Some (x, rest) → new ≡ front ++ x ∷ [] → (all.0 ≡ new ++ (whos_at rest).0) × (all.1 ≡ (whos_at rest).1)
whos_kept all front new ts o x rest i e f n =
    let m = (whos_more ts x rest (same_some _ _ e ∙ f)).0 in (
      i.0
          ∙ (ap (λ (p : List RawWho × List Token). front ++ p.0) m
          ∙ (sym (append_assoc front (x ∷ []) (whos_at rest).0)
          ∙ ap (λ xs. xs ++ (whos_at rest).0) (sym n))),
      i.1
          ∙ ap (λ (p : List RawWho × List Token). p.1) m,
    )

pub whos_shorter : (ts : List Token) (o : Option (RawWho × List Token)) (x : RawWho) (rest : List Token) → Some (who_at ts) ≡ Some o → o ≡ Some (x, rest) → length rest < length ts
whos_shorter ts o x rest e f = (whos_more ts x rest (same_some _ _ e ∙ f)).1

pub whos_done : (all : List RawWho × List Token) (front : List RawWho) (ts : List Token) (o : Option (RawWho × List Token)) → (all.0 ≡ front ++ (whos_at ts).0) × (all.1 ≡ (whos_at ts).1) → Some (who_at ts) ≡ Some o → o ≡ None → all ≡ (front, ts)
whos_done all front ts o i e f =
    let m = whos_end ts (same_some _ _ e ∙ f) in
    let first : all.0 ≡ front = i.0 ∙ (ap (λ (p : List RawWho × List Token). front ++ p.0) m ∙ append-nil front) in
    let second : all.1 ≡ ts = i.1 ∙ ap (λ (p : List RawWho × List Token). p.1) m in
    ap (λ xs. (xs, all.1)) first ∙ ap (λ ys. (front, ys)) second
