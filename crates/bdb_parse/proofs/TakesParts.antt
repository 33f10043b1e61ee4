-- What is in the grammar is read: the parts of a command.
use Rattle.std.proofs.Common.{◌≡◌, ℕ, ℤ, true, false, not, ◌&&◌, List, [], ◌∷◌, ◌++◌, Option, Some, None, refl, sym, ap, ◌∙◌, subst, inl, inr, append_assoc}
use Rattle.std.specs.Prelude.{codes}
use Rattle.std.specs.Option.{option_map}
use Rattle.std.proofs.lemmas.List.{append-nil}
use Rattle.std.proofs.lemmas.Bool.{cond-true, cond-false, and_from, and_left, not_from_false}
use Rattle.bdb_base.specs.declared.kinds.Value.{Value}
use Rattle.bdb_base.specs.declared.kinds.Value.TheVariants as values
use Rattle.bdb_base.specs.declared.kinds.Kind.{Kind}
use Rattle.bdb_base.specs.declared.kinds.Kind.TheVariants as kinds
use Rattle.bdb_base.specs.declared.kinds.Sign.{Sign}
use Rattle.bdb_base.specs.declared.kinds.Sign.TheVariants.{Plus, Minus}
use Rattle.bdb_base.specs.declared.kinds.Cmp.TheVariants as signs
use Rattle.bdb_base.specs.declared.kinds.ColDef.{ColDef}
use Rattle.bdb_lex.specs.declared.token.Token.{Token}
use Rattle.bdb_lex.specs.declared.token.Token.TheVariants.{Word, Text, Dot, ParenL, ParenR, Eq}
use Rattle.bdb_syntax.specs.declared.command.RawCol.{RawCol}
use Rattle.bdb_syntax.specs.declared.command.RawSide.{RawSide}
use Rattle.bdb_syntax.specs.declared.command.RawSide.TheVariants as sides
use Rattle.bdb_syntax.specs.declared.command.RawCond.{RawCond}
use Rattle.bdb_syntax.specs.declared.command.RawWho.{RawWho}
use Rattle.bdb_syntax.specs.declared.command.RawWho.TheVariants as whos
use Rattle.bdb_syntax.specs.declared.command.RawItem.{RawItem}
use Rattle.bdb_syntax.specs.declared.command.RawSet.{RawSet}
use Rattle.bdb_syntax.specs.Keywords.{is_keyword, is_reserved}
use Rattle.bdb_parse.specs.declared.stop.Stop.{Stop}
use Rattle.bdb_parse.specs.declared.stop.Stop.TheVariants as stops
use Rattle.bdb_parse.specs.declared.target.Target.{Target}
use Rattle.bdb_parse.specs.Numbers.{number_written}
use Rattle.bdb_parse.specs.Stops.{cut}
use Rattle.bdb_parse.specs.Grammar.{◌▸◌, IsNothing, IsToken, IsKeyword, IsName, IsNumToken, IsKeyClause, IsLiteral, AreRepeated, IsBelief, IsSign, IsKind, IsColumn, cmp_token, IsBareCol, IsFullCol, IsSide, IsCond, AreConds, IsSet, IsWho, IsItemBelief, IsAlias, IsItem, IsTarget}
use Rattle.bdb_parse.specs.Reading.{◌>>=◌, end_at, word_at, equals_at, open_at, cmp_at, keyword_at, name_at, literal_of, sign_of, sign_at, set_of, bare_of, col_at, col_of, begins_with_word, side_of, test_of, cond_of, conds_of, inside_at, inside_of, num_of, key_of, target_at, column_of, kind_of, past, alias_of, item_of, beliefs_at, whos_at}
use Rattle.bdb_parse.proofs.Takes.{head_is, keyword_takes, name_takes, name_takes_word, name_is_not_as, name_is_not_belief, name_is_not_not, other_keyword, Free, free_seq, cut_free, cut_at, name_free, keyword_free, text_free, num_free, dot_free, cmp_free, cmp_takes, list_takes, and_stops}
use Rattle.bdb_parse.proofs.ParsedParts.{keyword_misses}

pub then_some : {X Y : Type 0} (o : Option X) (x : X) (k : X → Option Y) (y : Y) → o ≡ Some x → k x ≡ Some y → (o >>= k) ≡ Some y
then_some {X} o x k y e f = ap (λ (p : Option X). p >>= k) e ∙ f

pub literal_takes : (v : Value) (ts : List Token) → IsLiteral v ts → literal_of number_written ts ≡ Some v
literal_takes (values.Text t) ts e = ap (literal_of number_written) e
literal_takes (values.Int n) ts h = ap (literal_of number_written) h.1 ∙ ap (option_map values.Int) h.2

pub literal_free : (v : Value) (stop : Stop) (ts : List Token) → IsLiteral v ts → Free stop ts
literal_free (values.Text t) stop ts e = text_free t stop ts e
literal_free (values.Int n) stop ts h = num_free h.0 stop ts h.1

kind_word : (k : Kind) (ts : List Token) → IsKind k ts → (w : List ℕ) × (ts ≡ Word w ∷ []) × (kind_of w ≡ Some k)
unfolding kind_of
kind_word kinds.Int ts h = (h.0, h.1, cond-true (is_keyword (codes "int") h.0) (Some kinds.Int) _ h.2)
kind_word kinds.Text ts h = (
  h.0,
  h.1,
  cond-false (is_keyword (codes "int") h.0) (Some kinds.Int) _ (other_keyword (codes "text") (codes "int") h.0 h.2 refl)
      ∙ cond-true (is_keyword (codes "text") h.0) (Some kinds.Text) None h.2,
)

kind_free : (k : Kind) (stop : Stop) (ts : List Token) → IsKind k ts → Free stop ts
kind_free kinds.Int stop ts h = keyword_free (codes "int") (refl, refl, refl) stop ts h
kind_free kinds.Text stop ts h = keyword_free (codes "text") (refl, refl, refl) stop ts h

pub column_takes : (c : ColDef) (ts : List Token) → IsColumn c ts → column_of ts ≡ Some c
unfolding column_of
column_takes c ts h =
    let k = kind_word c.kind h.1 h.4 in
    then_some (name_at ts) (c.name, h.1) _ c (name_takes c.name (IsKind c.kind) ts h)
    (then_some (word_at h.1) (k.0, []) _ c (ap word_at k.1)
    (then_some (kind_of k.0) c.kind _ c k.2 refl))

pub column_free : (c : ColDef) (stop : Stop) (ts : List Token) → IsColumn c ts → Free stop ts
column_free c stop ts h =
    free_seq (IsName c.name) (IsKind c.kind) stop (name_free c.name stop) (kind_free c.kind stop) ts h

pub set_takes : (s : RawSet) (ts : List Token) → IsSet s ts → set_of number_written ts ≡ Some s
unfolding set_of
set_takes s ts h =
    let i = h.4 in
    then_some (name_at ts) (s.col, h.1) _ s (name_takes s.col (IsToken Eq ▸ IsLiteral s.to) ts h)
    (then_some (equals_at h.1) i.1 _ s (ap equals_at (head_is h.1 i.0 i.1 Eq i.2 i.3))
    (then_some (literal_of number_written i.1) s.to _ s (literal_takes s.to i.1 i.4) refl))

pub set_free : (s : RawSet) (stop : Stop) (ts : List Token) → IsSet s ts → Free stop ts
set_free s stop ts h =
    free_seq (IsName s.col) (IsToken Eq ▸ IsLiteral s.to) stop (name_free s.col stop)
    (free_seq (IsToken Eq) (IsLiteral s.to) stop (cmp_free signs.Eq stop) (literal_free s.to stop)) ts h

bare_takes : (c : RawCol) (ts : List Token) → IsBareCol c ts → bare_of ts ≡ Some c
unfolding bare_of
bare_takes c ts h =
    let made : Option (List ℕ) → Option RawCol = λ a. Some (record { alias = a; col = c.col }) in
    then_some (name_at ts) (c.col, []) _ c (ap name_at h.1.0 ∙ name_takes_word c.col [] h.1.1)
    (ap made (sym h.0))

bare_begins : (c : RawCol) (ts : List Token) → IsBareCol c ts → begins_with_word ts ≡ true
bare_begins c ts h = ap begins_with_word h.1.0

bare_free : (c : RawCol) (stop : Stop) (ts : List Token) → IsBareCol c ts → Free stop ts
bare_free c stop ts h = name_free c.col stop ts h.1

-- the three tokens of a column behind an alias
full_tokens : (c : RawCol) (ts : List Token) → (h : IsFullCol c ts) → ts ≡ Word h.0 ∷ Dot ∷ Word c.col ∷ []
full_tokens c ts h =
    let k = h.2 in
    let m = k.4 in
    head_is ts k.0 k.1 (Word h.0) k.2 k.3.0
    ∙ ap (λ (r : List Token). Word h.0 ∷ r) (head_is k.1 m.0 m.1 Dot m.2 m.3 ∙ ap (λ (r : List Token). Dot ∷ r) m.4.0)

col_takes : (c : RawCol) (a : List ℕ) (rest : List Token) → c.alias ≡ Some a → is_reserved a ≡ false → is_reserved c.col ≡ false → col_at (Word a ∷ Dot ∷ Word c.col ∷ rest) ≡ Some (c, rest)
unfolding col_at
col_takes c a rest e n m =
    let made : Option (List ℕ) → Option (RawCol × List Token) = λ al. Some (record { alias = al; col = c.col }, rest) in
    then_some (name_at (Word a ∷ Dot ∷ Word c.col ∷ rest)) (a, Dot ∷ Word c.col ∷ rest) _ (c, rest) (name_takes_word a _ n)
    (then_some (name_at (Word c.col ∷ rest)) (c.col, rest) _ (c, rest) (name_takes_word c.col rest m) (ap made (sym e)))

full_front : (c : RawCol) (Q : List Token → Type 0) (ts : List Token) → (h : (IsFullCol c ▸ Q) ts) → col_at ts ≡ Some (c, h.1)
full_front c Q ts h =
    let f = h.3 in
    ap col_at (h.2 ∙ ap (λ (r : List Token). r ++ h.1) (full_tokens c h.0 f))
    ∙ col_takes c f.0 h.1 f.1 f.2.3.1 f.2.4.4.1

pub full_takes : (c : RawCol) (ts : List Token) → IsFullCol c ts → col_of ts ≡ Some c
unfolding col_of
full_takes c ts f =
    then_some (col_at ts) (c, []) _ c (ap col_at (full_tokens c ts f) ∙ col_takes c f.0 [] f.1 f.2.3.1 f.2.4.4.1)
    refl

full_begins : (c : RawCol) (ts : List Token) → IsFullCol c ts → begins_with_word ts ≡ true
full_begins c ts f = ap begins_with_word (full_tokens c ts f)

pub full_free : (c : RawCol) (stop : Stop) (ts : List Token) → IsFullCol c ts → Free stop ts
full_free c stop ts f =
    free_seq (IsName f.0) (IsToken Dot ▸ IsName c.col) stop (name_free f.0 stop)
    (free_seq (IsToken Dot) (IsName c.col) stop (dot_free stop) (name_free c.col stop)) ts f.2

literal_begins : (v : Value) (ts : List Token) → IsLiteral v ts → begins_with_word ts ≡ false
literal_begins (values.Text t) ts e = ap begins_with_word e
literal_begins (values.Int n) ts h = ap begins_with_word h.1

side_takes : (IsCol : RawCol → List Token → Type 0) (column : List Token → Option RawCol) → ((c : RawCol) (ts : List Token) → IsCol c ts → column ts ≡ Some c) → ((c : RawCol) (ts : List Token) → IsCol c ts → begins_with_word ts ≡ true) → (s : RawSide) (ts : List Token) → IsSide IsCol s ts → side_of column number_written ts ≡ Some s
unfolding side_of
side_takes IsCol column r b (sides.Col c) ts h =
    cond-true (begins_with_word ts) _ _ (b c ts h) ∙ ap (option_map sides.Col) (r c ts h)
side_takes IsCol column r b (sides.Lit v) ts h =
    cond-false (begins_with_word ts) _ _ (literal_begins v ts h) ∙ ap (option_map sides.Lit) (literal_takes v ts h)

side_free : (IsCol : RawCol → List Token → Type 0) (stop : Stop) → ((c : RawCol) (ts : List Token) → IsCol c ts → Free stop ts) → (s : RawSide) (ts : List Token) → IsSide IsCol s ts → Free stop ts
side_free IsCol stop f (sides.Col c) ts h = f c ts h
side_free IsCol stop f (sides.Lit v) ts h = literal_free v stop ts h

cond_free_by : (IsCol : RawCol → List Token → Type 0) (stop : Stop) → ((c : RawCol) (ts : List Token) → IsCol c ts → Free stop ts) → (c : RawCond) (ts : List Token) → IsCond IsCol c ts → Free stop ts
cond_free_by IsCol stop f c ts h =
    free_seq (IsCol c.left) (IsToken (cmp_token c.cmp) ▸ IsSide IsCol c.right) stop (f c.left)
    (free_seq (IsToken (cmp_token c.cmp)) (IsSide IsCol c.right) stop (cmp_free c.cmp stop) (side_free IsCol stop f c.right)) ts h

pub test_free : (stop : Stop) (c : RawCond) (ts : List Token) → IsCond IsBareCol c ts → Free stop ts
test_free stop c ts h = cond_free_by IsBareCol stop (λ x us i. bare_free x stop us i) c ts h

pub cond_free : (stop : Stop) (c : RawCond) (ts : List Token) → IsCond IsFullCol c ts → Free stop ts
cond_free stop c ts h = cond_free_by IsFullCol stop (λ x us i. full_free x stop us i) c ts h

pub test_takes : (c : RawCond) (ts : List Token) → IsCond IsBareCol c ts → test_of number_written ts ≡ Some c
unfolding test_of
test_takes c ts h =
    let i = h.4 in
    let made : Option (List ℕ) → Option RawCond = λ a. Some (record { left = record { alias = a; col = c.left.col }; cmp = c.cmp; right = c.right }) in
    then_some (name_at ts) (c.left.col, h.1) _ c (ap name_at (head_is ts h.0 h.1 (Word c.left.col) h.2 h.3.1.0) ∙ name_takes_word c.left.col h.1 h.3.1.1)
    (then_some (cmp_at h.1) (c.cmp, i.1) _ c (ap cmp_at (head_is h.1 i.0 i.1 (cmp_token c.cmp) i.2 i.3) ∙ cmp_takes c.cmp i.1)
    (then_some (side_of bare_of number_written i.1) c.right _ c (side_takes IsBareCol bare_of bare_takes bare_begins c.right i.1 i.4) (ap made (sym h.3.0))))

pub cond_takes : (c : RawCond) (ts : List Token) → IsCond IsFullCol c ts → cond_of number_written ts ≡ Some c
unfolding cond_of
cond_takes c ts h =
    let i = h.4 in
    then_some (col_at ts) (c.left, h.1) _ c (full_front c.left (IsToken (cmp_token c.cmp) ▸ IsSide IsFullCol c.right) ts h)
    (then_some (cmp_at h.1) (c.cmp, i.1) _ c (ap cmp_at (head_is h.1 i.0 i.1 (cmp_token c.cmp) i.2 i.3) ∙ cmp_takes c.cmp i.1)
    (then_some (side_of col_of number_written i.1) c.right _ c (side_takes IsFullCol col_of full_takes full_begins c.right i.1 i.4) refl))

-- a sign and a name begin with a word that isn't 'belief'
sign_begins : (s : Sign) (rel : List ℕ) (After : List Token → Type 0) (ts : List Token) → (IsSign s ▸ IsName rel ▸ After) ts → (w : List ℕ) × (rest : List Token) × (ts ≡ Word w ∷ rest) × (is_keyword (codes "belief") w ≡ false)
sign_begins Plus rel After ts h =
    let i = h.4 in
    let start : ts ≡ h.1 = h.2 ∙ ap (λ (r : List Token). r ++ h.1) h.3 in
    (rel, i.1, start ∙ head_is h.1 i.0 i.1 (Word rel) i.2 i.3.0, name_is_not_belief rel i.3.1)
sign_begins Minus rel After ts h =
    (h.3.0, h.1, head_is ts h.0 h.1 (Word h.3.0) h.2 h.3.1, other_keyword (codes "not") (codes "belief") h.3.0 h.3.2 refl)

pub sign_takes : (s : Sign) (rel : List ℕ) (After : List Token → Type 0) (ts : List Token) → (h : (IsSign s ▸ IsName rel ▸ After) ts) → sign_at ts ≡ (s, h.1)
unfolding sign_at
sign_takes Plus rel After ts h =
    let i = h.4 in
    let start : ts ≡ h.1 = h.2 ∙ ap (λ (r : List Token). r ++ h.1) h.3 in
    let first = head_is h.1 i.0 i.1 (Word rel) i.2 i.3.0 in
    ap (sign_of ts) (ap (keyword_at (codes "not")) (start ∙ first) ∙ keyword_misses (codes "not") rel i.1 (name_is_not_not rel i.3.1))
    ∙ ap (λ (r : List Token). sign_of r None) start
sign_takes Minus rel After ts h =
    ap (sign_of ts) (keyword_takes (codes "not") (IsName rel ▸ After) ts h)

beliefs_miss : (w : List ℕ) (rest : List Token) → is_keyword (codes "belief") w ≡ false → beliefs_at (Word w ∷ rest) ≡ ([], Word w ∷ rest)
beliefs_miss w (Text t ∷ rest) e = cond-false (is_keyword (codes "belief") w) _ _ e
beliefs_miss w _ e = refl

pub beliefs_take : (users : List (List ℕ)) (front rest : List Token) → AreRepeated IsBelief users front → beliefs_at rest ≡ ([], rest) → beliefs_at (front ++ rest) ≡ (users, rest)
beliefs_take [] front rest h e = ap (λ (f : List Token). beliefs_at (f ++ rest)) h ∙ e
beliefs_take (u ∷ us) front rest h e =
    let b = h.3 in
    let one : h.0 ≡ Word b.3.0 ∷ Text u ∷ [] = head_is h.0 b.0 b.1 (Word b.3.0) b.2 b.3.1 ∙ ap (λ (r : List Token). Word b.3.0 ∷ r) b.4 in
    ap (λ (f : List Token). beliefs_at (f ++ rest)) (h.2 ∙ ap (λ (f : List Token). f ++ h.1) one)
    ∙ (cond-true (is_keyword (codes "belief") b.3.0) _ _ b.3.2
    ∙ ap (λ (p : List (List ℕ) × List Token). (u ∷ p.0, p.1)) (beliefs_take us h.1 rest h.4 e))

pub target_takes : (users : List (List ℕ)) (sign : Sign) (rel : List ℕ) (After : List Token → Type 0) (ts : List Token) → IsTarget users sign rel After ts → (rest : List Token) × (target_at ts ≡ Some (record { users = users; sign = sign; rel = rel }, rest)) × After rest
unfolding target_at
target_takes users sign rel After ts h =
    let s = h.4 in
    let b = sign_begins sign rel After h.1 s in
    let stops_there : beliefs_at h.1 ≡ ([], h.1) = subst (λ (r : List Token). beliefs_at r ≡ ([], r)) (sym b.2) (beliefs_miss b.0 b.1 b.3) in
    let first : beliefs_at ts ≡ (users, h.1) = ap beliefs_at h.2 ∙ beliefs_take users h.0 h.1 h.3 stops_there in
    let second = sign_takes sign rel After h.1 s in
    let n = s.4 in
    let third = name_takes rel After s.1 n in
    let made : List (List ℕ) → Sign → List ℕ × List Token → Option (Target × List Token) = λ us sg r. Some (record { users = us; sign = sg; rel = r.0 }, r.1) in (
      n.1,
      ap (λ (p : List (List ℕ) × List Token). name_at (sign_at p.1).1 >>= made p.0 (sign_at p.1).0) first
          ∙ (ap (λ (p : Sign × List Token). name_at p.1 >>= made users p.0) second
          ∙ ap (λ (o : Option (List ℕ × List Token)). o >>= made users sign) third),
      n.4,
    )

whos_miss : (w : List ℕ) (rest : List Token) → is_keyword (codes "belief") w ≡ false → whos_at (Word w ∷ rest) ≡ ([], Word w ∷ rest)
whos_miss w (Text t ∷ rest) e = cond-false (is_keyword (codes "belief") w) _ _ e
whos_miss w (Word a ∷ Dot ∷ Word c ∷ rest) e =
    cond-false (is_keyword (codes "belief") w && (not (is_reserved a) && not (is_reserved c))) _ _ (and_left _ _ e)
whos_miss w _ e = refl

who_takes : (who : RawWho) (front rest : List Token) → IsItemBelief who front → whos_at (front ++ rest) ≡ (who ∷ (whos_at rest).0, (whos_at rest).1)
who_takes (whos.Name t) front rest b =
    let one : front ≡ Word b.3.0 ∷ Text t ∷ [] = head_is front b.0 b.1 (Word b.3.0) b.2 b.3.1 ∙ ap (λ (r : List Token). Word b.3.0 ∷ r) b.4 in
    ap (λ (f : List Token). whos_at (f ++ rest)) one ∙ cond-true (is_keyword (codes "belief") b.3.0) _ _ b.3.2
who_takes (whos.Col c) front rest b =
    let f = b.4 in
    let one : front ≡ Word b.3.0 ∷ Word f.0 ∷ Dot ∷ Word c.col ∷ [] = head_is front b.0 b.1 (Word b.3.0) b.2 b.3.1 ∙ ap (λ (r : List Token). Word b.3.0 ∷ r) (full_tokens c b.1 f) in
    let made : Option (List ℕ) → List RawWho × List Token = λ a. (whos.Col (record { alias = a; col = c.col }) ∷ (whos_at rest).0, (whos_at rest).1) in
    ap (λ (g : List Token). whos_at (g ++ rest)) one
    ∙ (cond-true (is_keyword (codes "belief") b.3.0 && (not (is_reserved f.0) && not (is_reserved c.col))) _ _
    (and_from _ _ b.3.2 (and_from _ _ (not_from_false _ f.2.3.1) (not_from_false _ f.2.4.4.1)))
    ∙ ap made (sym f.1))

whos_take : (path : List RawWho) (front rest : List Token) → AreRepeated IsItemBelief path front → whos_at rest ≡ ([], rest) → whos_at (front ++ rest) ≡ (path, rest)
whos_take [] front rest h e = ap (λ (f : List Token). whos_at (f ++ rest)) h ∙ e
whos_take (w ∷ ws) front rest h e =
    ap (λ (f : List Token). whos_at (f ++ rest)) h.2
    ∙ (ap whos_at (append_assoc h.0 h.1 rest)
    ∙ (who_takes w h.0 (h.1 ++ rest) h.3
    ∙ ap (λ (p : List RawWho × List Token). (w ∷ p.0, p.1)) (whos_take ws h.1 rest h.4 e)))

alias_takes : (rel alias : List ℕ) (ts : List Token) → IsAlias rel alias ts → alias_of rel ts ≡ Some alias
unfolding alias_of
alias_takes rel alias ts (inl h) = ap (alias_of rel) h.0 ∙ ap Some (sym h.1)
alias_takes rel alias ts (inr (inl n)) =
    let miss = keyword_misses (codes "as") alias [] (name_is_not_as alias n.1) in
    ap (alias_of rel) n.0
    ∙ then_some (name_at (past (Word alias ∷ []) (keyword_at (codes "as") (Word alias ∷ [])))) (alias, []) _ alias
    (ap (λ (o : Option (List Token)). name_at (past (Word alias ∷ []) o)) miss ∙ name_takes_word alias [] n.1)
    refl
alias_takes rel alias ts (inr (inr h)) =
    let whole = head_is ts h.0 h.1 (Word h.3.0) h.2 h.3.1 in
    let found = ap (keyword_at (codes "as")) (sym whole) ∙ keyword_takes (codes "as") (IsName alias) ts h in
    ap (alias_of rel) whole
    ∙ then_some (name_at (past (Word h.3.0 ∷ h.1) (keyword_at (codes "as") (Word h.3.0 ∷ h.1)))) (alias, []) _ alias
    (ap (λ (o : Option (List Token)). name_at (past (Word h.3.0 ∷ h.1) o)) found ∙ (ap name_at h.4.0 ∙ name_takes_word alias [] h.4.1))
    refl

pub item_takes : (i : RawItem) (ts : List Token) → IsItem i ts → item_of ts ≡ Some i
unfolding item_of
item_takes i ts h =
    let s = h.4 in
    let After = IsAlias i.rel i.alias in
    let b = sign_begins i.sign i.rel After h.1 s in
    let stops_there : whos_at h.1 ≡ ([], h.1) = subst (λ (r : List Token). whos_at r ≡ ([], r)) (sym b.2) (whos_miss b.0 b.1 b.3) in
    let first : whos_at ts ≡ (i.path, h.1) = ap whos_at h.2 ∙ whos_take i.path h.0 h.1 h.3 stops_there in
    let second = sign_takes i.sign i.rel After h.1 s in
    let n = s.4 in
    let third = name_takes i.rel After s.1 n in
    let made : List RawWho → Sign → List ℕ × List Token → Option RawItem = λ path sg r. alias_of r.0 r.1 >>= λ a. Some (record { path = path; sign = sg; rel = r.0; alias = a }) in
    ap (λ (p : List RawWho × List Token). name_at (sign_at p.1).1 >>= made p.0 (sign_at p.1).0) first
    ∙ (ap (λ (p : Sign × List Token). name_at p.1 >>= made i.path p.0) second
    ∙ (ap (λ (o : Option (List ℕ × List Token)). o >>= made i.path i.sign) third
    ∙ then_some (alias_of i.rel n.1) i.alias _ i (alias_takes i.rel i.alias n.1 n.4) refl))

nothing_free : (stop : Stop) (ts : List Token) → IsNothing ts → Free stop ts
nothing_free stop ts e = subst (Free stop) (sym e) tt

who_free : (stop : Stop) (w : RawWho) (ts : List Token) → IsWho w ts → Free stop ts
who_free stop (whos.Name t) ts h = text_free t stop ts h
who_free stop (whos.Col c) ts h = full_free c stop ts h

path_free : (stop : Stop) (path : List RawWho) (ts : List Token) → AreRepeated IsItemBelief path ts → Free stop ts
path_free stop [] ts h = nothing_free stop ts h
path_free stop (w ∷ ws) ts h =
    free_seq (IsItemBelief w) (AreRepeated IsItemBelief ws) stop
    (free_seq (IsKeyword (codes "belief")) (IsWho w) stop (keyword_free (codes "belief") (refl, refl, refl) stop) (who_free stop w))
    (path_free stop ws) ts h

sign_free : (stop : Stop) (s : Sign) (ts : List Token) → IsSign s ts → Free stop ts
sign_free stop Plus ts h = nothing_free stop ts h
sign_free stop Minus ts h = keyword_free (codes "not") (refl, refl, refl) stop ts h

alias_free : (stop : Stop) (rel alias : List ℕ) (ts : List Token) → IsAlias rel alias ts → Free stop ts
alias_free stop rel alias ts (inl h) = nothing_free stop ts h.0
alias_free stop rel alias ts (inr (inl n)) = name_free alias stop ts n
alias_free stop rel alias ts (inr (inr h)) =
    free_seq (IsKeyword (codes "as")) (IsName alias) stop (keyword_free (codes "as") (refl, refl, refl) stop) (name_free alias stop) ts h

pub item_free : (stop : Stop) (i : RawItem) (ts : List Token) → IsItem i ts → Free stop ts
item_free stop i ts h =
    free_seq (AreRepeated IsItemBelief i.path) (IsSign i.sign ▸ IsName i.rel ▸ IsAlias i.rel i.alias) stop (path_free stop i.path)
    (free_seq (IsSign i.sign) (IsName i.rel ▸ IsAlias i.rel i.alias) stop (sign_free stop i.sign)
    (free_seq (IsName i.rel) (IsAlias i.rel i.alias) stop (name_free i.rel stop) (alias_free stop i.rel i.alias))) ts h

-- what stands before a 'where', and the conditions behind it
pub conds_take : (IsCol : RawCol → List Token → Type 0) (read : List Token → Option RawCond) → ((c : RawCond) (ts : List Token) → IsCond IsCol c ts → read ts ≡ Some c) → ((c : RawCond) (ts : List Token) → IsCond IsCol c ts → Free stops.And ts) → (conds : List RawCond) (front rest : List Token) → Free stops.Where front → AreConds IsCol conds rest → (o : Option (List Token)) × (cut stops.Where (front ++ rest) ≡ (front, o)) × (conds_of read o ≡ Some conds)
conds_take IsCol read r f [] front rest free h =
    (None, ap (λ (q : List Token). cut stops.Where (front ++ q)) h ∙ (ap (cut stops.Where) (append-nil front) ∙ cut_free stops.Where front free), refl)
conds_take IsCol read r f (c ∷ cs) front rest free h = (
  Some h.1,
  ap (λ (q : List Token). cut stops.Where (front ++ q)) (head_is rest h.0 h.1 (Word h.3.0) h.2 h.3.1) ∙ cut_at stops.Where front (Word h.3.0) h.1 free h.3.2,
  list_takes (IsCond IsCol) (IsKeyword (codes "and")) read stops.And r f and_stops (c ∷ cs) h.1 h.4,
)

num_takes : (n : ℤ) (ts : List Token) → IsNumToken n ts → num_of number_written ts ≡ Some n
num_takes n ts h = ap (num_of number_written) h.1 ∙ h.2

pub key_takes : (key : Option ℤ) (ts : List Token) → IsKeyClause key ts → key_of number_written ts ≡ Some key
unfolding key_of
key_takes None ts h = ap (key_of number_written) h
key_takes (Some n) ts h =
    let whole = head_is ts h.0 h.1 (Word h.3.0) h.2 h.3.1 in
    let found = ap (keyword_at (codes "key")) (sym whole) ∙ keyword_takes (codes "key") (IsNumToken n) ts h in
    ap (key_of number_written) whole
    ∙ then_some (keyword_at (codes "key") (Word h.3.0 ∷ h.1)) h.1 _ (Some n) found (ap (option_map (λ m. Some m)) (num_takes n h.1 h.4))

-- what stands in parentheses, and what stands behind them
pub parens_take : (P Q : List Token → Type 0) → ((ts : List Token) → P ts → Free stops.Close ts) → (ts : List Token) → (IsToken ParenL ▸ P ▸ IsToken ParenR ▸ Q) ts
    → (x : List Token × List Token) × (inside_at ts ≡ Some x) × P x.0 × Q x.1
unfolding inside_at
parens_take P Q f ts h =
    let i = h.4 in
    let c = i.4 in
    let body : h.1 ≡ i.0 ++ ParenR ∷ c.1 = i.2 ∙ ap (λ (r : List Token). i.0 ++ r) (head_is i.1 c.0 c.1 ParenR c.2 c.3) in
    let e : cut stops.Close h.1 ≡ (i.0, Some c.1) = ap (cut stops.Close) body ∙ cut_at stops.Close i.0 ParenR c.1 (f i.0 i.3) refl in
    let made : List Token × Option (List Token) → Option (List Token × List Token) = λ p. p.1 >>= λ after. Some (p.0, after) in
    ((i.0, c.1), then_some (open_at ts) h.1 _ (i.0, c.1) (ap open_at (head_is ts h.0 h.1 ParenL h.2 h.3)) (ap made e), i.3, c.4)

-- what stands in parentheses and takes up the whole
pub inside_takes : (P : List Token → Type 0) → ((ts : List Token) → P ts → Free stops.Close ts) → (ts : List Token) → (IsToken ParenL ▸ P ▸ IsToken ParenR) ts → (inside : List Token) × (inside_of ts ≡ Some inside) × P inside
unfolding inside_of
inside_takes P f ts h =
    let i = h.4 in
    let x = parens_take P IsNothing f ts (h.0, h.1, h.2, h.3, (i.0, i.1, i.2, i.3, (ParenR ∷ [], [], i.4, refl, refl))) in
    let nothing : end_at x.0.1 ≡ Some [] = ap end_at x.3 in
    (x.0.0, then_some (inside_at ts) x.0 _ x.0.0 x.1 (then_some (end_at x.0.1) [] _ x.0.0 nothing refl), x.2)
