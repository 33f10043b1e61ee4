-- The parts of a command, parsed from their tokens.
use Rattle.std.proofs.Common.{◌≡◌, ℕ, suc, ◌<◌, ◌^◌, ◌==◌, Bool, true, false, List, [], ◌∷◌, ◌++◌, length, Option, Some, None, refl, sym, ap, subst, ◌∙◌, arith, ℤ, pos, negsuc, append_assoc}
use Rattle.std.specs.Prelude.{codes, IsSomeAnd}
use Rattle.std.specs.List.{list_all, flat_map, AllByRecursion}
use Rattle.std.specs.Char.{is_ascii_digit}
use Rattle.std.specs.Fmt.{decimal}
use Rattle.std.specs.Str.Parse.{digits_value}
use Rattle.std.proofs.lemmas.Bool.{false≢true, and_parts, ltb-true}
use Rattle.std.proofs.lemmas.Bool.Decides.{nat_tests}
use Rattle.std.proofs.lemmas.List.{append-nil}
use Rattle.std.proofs.lemmas.Fmt.{digits_decimal, digits_value-decimal, decimal_nonempty}
use Rattle.bdb_base.specs.declared.kinds.Cmp.{Cmp}
use Rattle.bdb_base.specs.declared.kinds.Cmp.TheVariants as cmp
use Rattle.bdb_base.specs.declared.kinds.ColDef.{ColDef}
use Rattle.bdb_base.specs.declared.kinds.Kind.{Kind}
use Rattle.bdb_base.specs.declared.kinds.Kind.TheVariants as kind
use Rattle.bdb_base.specs.declared.kinds.Sign.{Sign}
use Rattle.bdb_base.specs.declared.kinds.Sign.TheVariants.{Plus, Minus}
use Rattle.bdb_base.specs.declared.kinds.Value.{Value}
use Rattle.bdb_base.specs.declared.kinds.Value.TheVariants as value
use Rattle.bdb_base.specs.Texts.{int_text, kind_text}
use Rattle.bdb_lex.specs.declared.token.Token.{Token}
use Rattle.bdb_lex.specs.declared.token.Token.TheVariants.{Word, Text, Dot, Eq}
use Rattle.bdb_syntax.specs.declared.command.RawCol.{RawCol}
use Rattle.bdb_syntax.specs.declared.command.RawCond.{RawCond}
use Rattle.bdb_syntax.specs.declared.command.RawItem.{RawItem}
use Rattle.bdb_syntax.specs.declared.command.RawSet.{RawSet}
use Rattle.bdb_syntax.specs.declared.command.RawSide.{RawSide}
use Rattle.bdb_syntax.specs.declared.command.RawSide.TheVariants.{Col, Lit}
use Rattle.bdb_syntax.specs.declared.command.RawWho.{RawWho}
use Rattle.bdb_syntax.specs.declared.command.RawWho.TheVariants as who
use Rattle.bdb_syntax.specs.Keywords.{is_reserved}
use Rattle.bdb_syntax.specs.Printable.{IsNameWord, IsBareColumn, IsFullColumn, IsPrintableWho, IsPrintableItem}
use Rattle.bdb_parse.specs.Numbers.{number_written, is_i64}
use Rattle.bdb_parse.specs.Fits.{value_fits, side_fits, cond_fits, set_fits}
use Rattle.bdb_parse.specs.Reading.{keyword_at, literal_of, cmp_at, col_at, col_of, bare, bare_of, side_of, test_of, cond_of, set_of, kind_of, column_of, beliefs_at, whos_at, sign_at, target_at, alias_of, item_of}
use Rattle.bdb_parse.proofs.PrintedTokens.{value_tokens, named_tokens, col_tokens, side_tokens, cmp_token, cond_tokens, set_tokens, column_tokens, belief_tokens, who_tokens, not_tokens, target_tokens, item_tokens}
use Rattle.bdb_parse.proofs.ParsedParts.{IsSideOf, no_keyword, name_takes, keyword_misses}
use Rattle.bdb_parse.proofs.NumberLemmas.{digit_is_no_plus, digits_own}

digit_no_dash : (c : ℕ) → is_ascii_digit c ≡ true → (c == 45) ≡ false
digit_no_dash c h = grind (arith, nat_tests)

has_some : (n : ℕ) → (suc n == 0) ≡ false
has_some n = grind (arith, nat_tests)

-- digits write their value
digits_number : (a : List ℕ) → list_all is_ascii_digit a ≡ true → 0 < length a → number_written a ≡ Some (pos (digits_value 10 a))
digits_number [] h n = absurd (omega arith)
digits_number (c ∷ cs) h n =
    let p = and_parts (is_ascii_digit c) (list_all is_ascii_digit cs) h in
    let dash : (c == 45) ≡ false = digit_no_dash c p.0 in
    let plus : (c == 43) ≡ false = digit_is_no_plus c p.0 in
    let some : (suc (length cs) == 0) ≡ false = has_some (length cs) in
    rw (dash, plus, h, some) refl

dashed_number : (a : List ℕ) → list_all is_ascii_digit a ≡ true → 0 < length a → (n : ℕ) → digits_value 10 a ≡ suc n → number_written (45 ∷ a) ≡ Some (negsuc n)
dashed_number [] h k n e = absurd (omega arith)
dashed_number (c ∷ cs) h k n e = let some : (suc (length cs) == 0) ≡ false = has_some (length cs) in rw (h, e, some) refl

pub int_parses : (z : ℤ) → is_i64 z ≡ true → number_written (int_text z) ≡ Some z
int_parses (pos n) h =
    let small : n < 2 ^ 63 = ltb-true n (2 ^ 63) h in
    let fits : n < 2 ^ 64 = omega arith in
    digits_number (decimal n) (digits_decimal digits_own n fits) (decimal_nonempty n fits) ∙ ap (λ v. Some (pos v)) (digits_value-decimal digits_own n fits)
int_parses (negsuc n) h =
    let small : n < 2 ^ 63 = ltb-true n (2 ^ 63) h in
    let fits : suc n < 2 ^ 64 = omega arith in
    dashed_number (decimal (suc n)) (digits_decimal digits_own (suc n) fits) (decimal_nonempty (suc n) fits) n (digits_value-decimal digits_own (suc n) fits)

pub value_parses : (v : Value) → value_fits v ≡ true → literal_of number_written (value_tokens v) ≡ Some v
value_parses (value.Int n) f = rw (int_parses n f) refl
value_parses (value.Text t) f = refl

dotted_parses : (alias : Option (List ℕ)) (col : List ℕ) (rest : List Token) → IsSomeAnd alias IsNameWord → IsNameWord col
    → col_at (named_tokens alias col ++ rest) ≡ Some (record { alias = alias; col = col }, rest)
unfolding col_at
dotted_parses None col rest h k = absurd h
dotted_parses (Some a) col rest h k = rw (name_takes a (Dot ∷ Word col ∷ rest) h, name_takes col rest k) refl

col_takes : (c : RawCol) (rest : List Token) → IsFullColumn c → col_at (col_tokens c ++ rest) ≡ Some (c, rest)
col_takes c rest h = dotted_parses c.alias c.col rest h.0 h.1

pub col_parses : (c : RawCol) → IsFullColumn c → col_of (col_tokens c) ≡ Some c
unfolding col_of
col_parses c h = rw (sym (append-nil (col_tokens c)), col_takes c [] h) refl

bare_is : (c : RawCol) → c.alias ≡ None → bare c.col ≡ c
bare_is c h = let of : Option (List ℕ) → RawCol = λ a. record { alias = a; col = c.col } in ap of (sym h)

bare_parses : (c : RawCol) → IsBareColumn c → bare_of (col_tokens c) ≡ Some c
unfolding bare_of
bare_parses c h = subst (λ x. bare_of (col_tokens x) ≡ Some x) (bare_is c h.0) (at_name c.col h.1)
  where
    at_name : (w : List ℕ) → IsNameWord w → bare_of (Word w ∷ []) ≡ Some (bare w)
    at_name w k = rw (name_takes w [] k) refl

-- a value is no word, and a column begins with one
side_parses : (IsCol : RawCol → Type 0) (read : List Token → Option RawCol) → ((c : RawCol) → IsCol c → read (col_tokens c) ≡ Some c) → (s : RawSide) → IsSideOf IsCol s
    → side_fits s ≡ true → side_of read number_written (side_tokens s) ≡ Some s
unfolding side_of
side_parses IsCol read each (Col c) h f = col_side c.alias c.col (each c h)
  where
    col_side : (alias : Option (List ℕ)) (col : List ℕ) → read (named_tokens alias col) ≡ Some (record { alias = alias; col = col })
        → side_of read number_written (named_tokens alias col) ≡ Some (Col (record { alias = alias; col = col }))
    col_side None col e = rw e refl
    col_side (Some a) col e = rw e refl
side_parses IsCol read each (Lit (value.Int n)) h f = rw (int_parses n f) refl
side_parses IsCol read each (Lit (value.Text t)) h f = refl

cmp_takes : (c : Cmp) (rest : List Token) → cmp_at (cmp_token c ∷ rest) ≡ Some (c, rest)
cmp_takes cmp.Eq rest = refl
cmp_takes cmp.Ne rest = refl
cmp_takes cmp.Lt rest = refl
cmp_takes cmp.Le rest = refl
cmp_takes cmp.Gt rest = refl
cmp_takes cmp.Ge rest = refl

pub cond_parses : (c : RawCond) → IsFullColumn c.left → IsSideOf IsFullColumn c.right → cond_fits c ≡ true → cond_of number_written (cond_tokens c) ≡ Some c
unfolding cond_of
cond_parses c h k f =
    rw (
      append_assoc (col_tokens c.left) (cmp_token c.cmp ∷ []) (side_tokens c.right),
      col_takes c.left (cmp_token c.cmp ∷ side_tokens c.right) h,
      cmp_takes c.cmp (side_tokens c.right),
      side_parses IsFullColumn col_of col_parses c.right k f,
    ) refl

pub test_parses : (c : RawCond) → IsBareColumn c.left → IsSideOf IsBareColumn c.right → cond_fits c ≡ true → test_of number_written (cond_tokens c) ≡ Some c
unfolding test_of
test_parses c h k f = subst (λ x. test_of number_written (cond_tokens (record { left = x; cmp = c.cmp; right = c.right })) ≡ Some (record { left = x; cmp = c.cmp; right = c.right })) (bare_is c.left h.0)
    (at_name c.left.col h.1)
  where
    at_name : (w : List ℕ) → IsNameWord w → test_of number_written (Word w ∷ cmp_token c.cmp ∷ side_tokens c.right) ≡ Some (record { left = bare w; cmp = c.cmp; right = c.right })
    at_name w n = rw (name_takes w (cmp_token c.cmp ∷ side_tokens c.right) n, cmp_takes c.cmp (side_tokens c.right), side_parses IsBareColumn bare_of bare_parses c.right k f) refl

pub set_parses : (s : RawSet) → IsNameWord s.col → set_fits s ≡ true → set_of number_written (set_tokens s) ≡ Some s
unfolding set_of
set_parses s h f = rw (name_takes s.col (Eq ∷ value_tokens s.to) h, value_parses s.to f) refl

kind_parses : (k : Kind) → kind_of (kind_text k) ≡ Some k
unfolding kind_of
kind_parses kind.Int = refl
kind_parses kind.Text = refl

pub column_parses : (c : ColDef) → IsNameWord c.name → column_of (column_tokens c) ≡ Some c
unfolding column_of
column_parses c h = rw (name_takes c.name (Word (kind_text c.kind) ∷ []) h, kind_parses c.kind) refl

-- a relation's name, after which no text stands, is no user
abbrev pub begins_plain : List Token → Bool
begins_plain [] = true
begins_plain (Word w ∷ ts) = true
begins_plain _ = false

beliefs_stop : (s : Sign) (rel : List ℕ) (rest : List Token) → begins_plain rest ≡ true → beliefs_at (not_tokens s ++ Word rel ∷ rest) ≡ ([], not_tokens s ++ Word rel ∷ rest)
beliefs_stop Minus rel rest h = refl
beliefs_stop Plus rel [] h = refl
beliefs_stop Plus rel (Word w ∷ rest) h = refl
beliefs_stop Plus rel (Text w ∷ rest) h = absurd (false≢true h)
beliefs_stop Plus rel (_ ∷ rest) h = refl

pub beliefs_parse : (users : List (List ℕ)) (rest : List Token) → beliefs_at rest ≡ ([], rest) → beliefs_at (flat_map belief_tokens users ++ rest) ≡ (users, rest)
beliefs_parse [] rest h = h
beliefs_parse (u ∷ users) rest h = ap (λ (p : List (List ℕ) × List Token). (u ∷ p.0, p.1)) (beliefs_parse users rest h)

not_taken : (rest : List Token) → keyword_at (codes "not") (Word (codes "not") ∷ rest) ≡ Some rest
unfolding keyword_at
not_taken rest = refl

sign_parses : (s : Sign) (rel : List ℕ) (rest : List Token) → IsNameWord rel → sign_at (not_tokens s ++ Word rel ∷ rest) ≡ (s, Word rel ∷ rest)
unfolding sign_at
sign_parses Plus rel rest h = rw (keyword_misses (codes "not") rel rest (no_keyword 7 (codes "not") rel refl h.1)) refl
sign_parses Minus rel rest h = rw (not_taken (Word rel ∷ rest)) refl

pub target_parses : (users : List (List ℕ)) (s : Sign) (rel : List ℕ) (rest : List Token) → IsNameWord rel → begins_plain rest ≡ true
    → target_at (target_tokens users s rel ++ rest) ≡ Some (record { users = users; sign = s; rel = rel }, rest)
unfolding target_at
target_parses users s rel rest h b =
    rw (
      append_assoc (flat_map belief_tokens users ++ not_tokens s) (Word rel ∷ []) rest,
      append_assoc (flat_map belief_tokens users) (not_tokens s) (Word rel ∷ rest),
      beliefs_parse users (not_tokens s ++ Word rel ∷ rest) (beliefs_stop s rel rest b),
      sign_parses s rel rest h,
      name_takes rel rest h,
    ) refl

whos_stop : (s : Sign) (rel alias : List ℕ) → whos_at (not_tokens s ++ Word rel ∷ Word alias ∷ []) ≡ ([], not_tokens s ++ Word rel ∷ Word alias ∷ [])
whos_stop Plus rel alias = refl
whos_stop Minus rel alias = refl

-- one user that is a column, where those after it are read
who_parses : (alias : Option (List ℕ)) (col : List ℕ) (path : List RawWho) (more rest : List Token) → IsSomeAnd alias IsNameWord → IsNameWord col → whos_at more ≡ (path, rest)
    → whos_at (Word (codes "BELIEF") ∷ named_tokens alias col ++ more) ≡ (who.Col (record { alias = alias; col = col }) ∷ path, rest)
who_parses None col path more rest h k e = absurd h
who_parses (Some a) col path more rest h k e =
    let plain_alias : is_reserved a ≡ false = h.1 in
    let plain_col : is_reserved col ≡ false = k.1 in
    rw (plain_alias, plain_col) (ap (λ (p : List RawWho × List Token). (who.Col (record { alias = Some a; col = col }) ∷ p.0, p.1)) e)

whos_parse : (path : List RawWho) (rest : List Token) → AllByRecursion IsPrintableWho path → whos_at rest ≡ ([], rest) → whos_at (flat_map who_tokens path ++ rest) ≡ (path, rest)
whos_parse [] rest h e = e
whos_parse (who.Name u ∷ path) rest h e = ap (λ (p : List RawWho × List Token). (who.Name u ∷ p.0, p.1)) (whos_parse path rest h.1 e)
whos_parse (who.Col c ∷ path) rest h e =
    ap whos_at (append_assoc (who_tokens (who.Col c)) (flat_map who_tokens path) rest)
    ∙ who_parses c.alias c.col path (flat_map who_tokens path ++ rest) rest h.0.0 h.0.1 (whos_parse path rest h.1 e)

alias_parses : (rel alias : List ℕ) → IsNameWord alias → alias_of rel (Word alias ∷ []) ≡ Some alias
unfolding alias_of
alias_parses rel alias h = rw (keyword_misses (codes "as") alias [] (no_keyword 1 (codes "as") alias refl h.1), name_takes alias [] h) refl

pub item_parses : (i : RawItem) → IsPrintableItem i → item_of (item_tokens i) ≡ Some i
unfolding item_of
item_parses i h =
    let rest = Word i.rel ∷ Word i.alias ∷ [] in
    rw (
      append_assoc (flat_map who_tokens i.path ++ not_tokens i.sign) (Word i.rel ∷ []) (Word i.alias ∷ []),
      append_assoc (flat_map who_tokens i.path) (not_tokens i.sign) rest,
      whos_parse i.path (not_tokens i.sign ++ rest) h.0 (whos_stop i.sign i.rel i.alias),
      sign_parses i.sign i.rel (Word i.alias ∷ []) h.1,
      name_takes i.rel (Word i.alias ∷ []) h.1,
      alias_parses i.rel i.alias h.2,
    ) refl
