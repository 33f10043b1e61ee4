-- Well formed tokens are well spelled, and a command that has a printed form is allowed.
use Rattle.std.proofs.Common.{◌≡◌, ℕ, Bool, true, false, not, ◌&&◌, nat_lt, nat_le, List, [], ◌∷◌, length, refl, arith}
use Rattle.std.specs.List.{list_any, list_all, AllByRecursion}
use Rattle.std.specs.Char.{is_ascii_digit}
use Rattle.std.specs.Str.{is_utf8}
use Rattle.std.proofs.lemmas.Bool.{false≢true, and_parts, and_from, or_from, or_left, not_from_true, not_from_false, lt-ltb}
use Rattle.std.proofs.lemmas.Bool.Decides.{nat_tests}
use Rattle.std.proofs.lemmas.Str.{is_utf8-from_IsUtf8, IsUtf8-from_is_utf8}
use Rattle.bdb_base.specs.declared.kinds.ColDef.{ColDef}
use Rattle.bdb_base.specs.declared.kinds.Value.{Value}
use Rattle.bdb_base.specs.declared.kinds.Value.TheVariants as value
use Rattle.bdb_base.specs.Bases.{is_clean, is_plain}
use Rattle.bdb_base.proofs.ListLemmas.{list_all_weaker}
use Rattle.bdb_base.specs.Letters.{is_letter, is_word_byte}
use Rattle.bdb_lex.specs.declared.token.Token.{Token}
use Rattle.bdb_lex.specs.declared.token.Token.TheVariants.{Word, Text}
use Rattle.bdb_lex.specs.Reading.{is_word}
use Rattle.bdb_lex.specs.TokenGrammar.{is_formed}
use Rattle.bdb_lex.proofs.TokenLemmas.{utf8_from, word_byte_low}
use Rattle.bdb_syntax.specs.declared.command.RawSide.{RawSide}
use Rattle.bdb_syntax.specs.declared.command.RawSide.TheVariants.{Col, Lit}
use Rattle.bdb_syntax.specs.declared.command.RawCol.{RawCol}
use Rattle.bdb_syntax.specs.declared.command.RawCond.{RawCond}
use Rattle.bdb_syntax.specs.declared.command.RawItem.{RawItem}
use Rattle.bdb_syntax.specs.declared.command.RawQuery.{RawQuery}
use Rattle.bdb_syntax.specs.declared.command.RawWho.{RawWho}
use Rattle.bdb_syntax.specs.declared.command.RawWho.TheVariants as who
use Rattle.bdb_syntax.specs.declared.command.RawSet.{RawSet}
use Rattle.bdb_syntax.specs.declared.command.Command.{Command}
use Rattle.bdb_syntax.specs.declared.command.Command.TheVariants.{CreateUser, CreateRelation, DropUser, Insert, Delete, Update, Select, Explain, ShowWorld, Why, ShowTables, Undo, Redo}
use Rattle.bdb_syntax.specs.Filled.{is_filled}
use Rattle.bdb_syntax.specs.Printable.{is_short_word, IsNameWord, IsContent, IsPrintableValue, IsBareColumn, IsFullColumn, IsPrintableSide, IsPrintableCond, IsPrintableSet, IsPrintableWho, IsPrintableItem, IsPrintableQuery, IsPrintable}
use Rattle.bdb_parse.specs.Spelled.{IsWellSpelled, AreWellSpelled}
use Rattle.bdb_bind.specs.Parts.{some_text, some_query_text, some_who_text, value_texts, side_texts}
use Rattle.bdb_bind.specs.Fits.{is_unclean, names_allowed, is_allowed}

-- tokens

-- the two tests of a word agree
word_is_spelled : (w : List ℕ) → is_word w ≡ true → nat_le (length w) 255 ≡ true → is_short_word w ≡ true
word_is_spelled [] h short = absurd (false≢true h)
word_is_spelled (b ∷ w) h short =
    let k = and_parts (is_letter b) (list_all is_word_byte (b ∷ w)) h in
    let rest = and_parts (is_word_byte b) (list_all is_word_byte w) k.1 in
    and_from (is_letter b) (list_all is_word_byte w && nat_le (length (b ∷ w)) 255) k.0
    (and_from (list_all is_word_byte w) (nat_le (length (b ∷ w)) 255) rest.1 short)

token_is_spelled : (t : Token) → is_formed t ≡ true → IsWellSpelled t
token_is_spelled (Word w) h = let k = and_parts (is_word w) (nat_le (length w) 255) h in word_is_spelled w k.0 k.1
token_is_spelled (Text t) h = let k = and_parts (is_utf8 t) (list_all (λ b. nat_le 32 b) t) h in (IsUtf8-from_is_utf8 t k.0, k.1)
token_is_spelled t h = tt

pub well_spelled : (ts : List Token) → list_all is_formed ts ≡ true → AreWellSpelled ts
well_spelled [] h = tt
well_spelled (t ∷ ts) h = let k = and_parts (is_formed t) (list_all is_formed ts) h in (token_is_spelled t k.0, well_spelled ts k.1)

-- lists

-- what holds of each item, as a test that none passes
none_pass : {X : Type 0} (P : X → Type 0) (p : X → Bool) → ((x : X) → P x → p x ≡ false) → (xs : List X) → AllByRecursion P xs → list_any p xs ≡ false
none_pass P p w [] h = refl
none_pass P p w (x ∷ xs) h = or_from (p x) (list_any p xs) (w x h.0) (none_pass P p w xs h.1)

-- what holds of each item, as a test that all pass
all_pass : {X : Type 0} (P : X → Type 0) (p : X → Bool) → ((x : X) → P x → p x ≡ true) → (xs : List X) → AllByRecursion P xs → list_all p xs ≡ true
all_pass P p w [] h = refl
all_pass P p w (x ∷ xs) h = and_from (p x) (list_all p xs) (w x h.0) (all_pass P p w xs h.1)

some_columns : (cols : List ColDef) → is_filled cols ≡ true → nat_lt 0 (length cols) ≡ true
some_columns [] h = absurd (false≢true h)
some_columns (c ∷ cols) h = lt-ltb 0 (length (c ∷ cols)) (omega arith)

-- texts

content_is_clean : (t : List ℕ) → IsContent t → is_unclean t ≡ false
content_is_clean t h = not_from_true (is_clean t) (and_from (is_utf8 t) (list_all (λ c. nat_le 32 c) t) (is_utf8-from_IsUtf8 t h.0) h.1)

users_are_clean : (users : List (List ℕ)) → AllByRecursion IsContent users → list_any is_unclean users ≡ false
users_are_clean users h = none_pass IsContent is_unclean content_is_clean users h

value_is_clean : (v : Value) → IsPrintableValue v → list_any is_unclean (value_texts v) ≡ false
value_is_clean (value.Int n) h = refl
value_is_clean (value.Text t) h = or_from (is_unclean t) false (content_is_clean t h) refl

values_are_clean : (vals : List Value) → AllByRecursion IsPrintableValue vals → list_any (λ v. list_any is_unclean (value_texts v)) vals ≡ false
values_are_clean vals h = none_pass IsPrintableValue (λ v. list_any is_unclean (value_texts v)) value_is_clean vals h

side_is_clean : (IsCol : RawCol → Type 0) (s : RawSide) → IsPrintableSide IsCol s → list_any is_unclean (side_texts s) ≡ false
side_is_clean IsCol (Col c) h = refl
side_is_clean IsCol (Lit v) h = value_is_clean v h

conds_are_clean : (IsCol : RawCol → Type 0) (conds : List RawCond) → AllByRecursion (IsPrintableCond IsCol) conds → list_any (λ c. list_any is_unclean (side_texts c.right)) conds ≡ false
conds_are_clean IsCol conds h =
    none_pass (IsPrintableCond IsCol) (λ c. list_any is_unclean (side_texts c.right)) (λ c p. side_is_clean IsCol c.right p.1) conds h

who_is_clean : (w : RawWho) → IsPrintableWho w → some_who_text is_unclean w ≡ false
who_is_clean (who.Name t) h = content_is_clean t h
who_is_clean (who.Col c) h = refl

items_are_clean : (items : List RawItem) → AllByRecursion IsPrintableItem items → list_any (λ i. list_any (some_who_text is_unclean) i.path) items ≡ false
items_are_clean items h = none_pass IsPrintableItem (λ i. list_any (some_who_text is_unclean) i.path)
    (λ i p. none_pass IsPrintableWho (some_who_text is_unclean) who_is_clean i.path p.0) items h

query_is_clean : (q : RawQuery) → IsPrintableQuery q → some_query_text is_unclean q ≡ false
query_is_clean q h = or_from (list_any (λ i. list_any (some_who_text is_unclean) i.path) q.items) (list_any (λ c. list_any is_unclean (side_texts c.right)) q.conds)
    (items_are_clean q.items h.1) (conds_are_clean IsFullColumn q.conds h.2)

sets_are_clean : (sets : List RawSet) → AllByRecursion IsPrintableSet sets → list_any (λ s. list_any is_unclean (value_texts s.to)) sets ≡ false
sets_are_clean sets h = none_pass IsPrintableSet (λ s. list_any is_unclean (value_texts s.to)) (λ s p. value_is_clean s.to p.1) sets h

-- names

letter_in_word : (b : ℕ) → is_letter b ≡ true → is_word_byte b ≡ true
letter_in_word b h = or_left (is_letter b) (is_ascii_digit b) h

word_byte_high : (b : ℕ) → is_word_byte b ≡ true → nat_le 32 b ≡ true
word_byte_high b h = grind (arith, nat_tests)

word_is_plain : (w : List ℕ) → is_short_word w ≡ true → is_plain w ≡ true
word_is_plain [] h = absurd (false≢true h)
word_is_plain (b ∷ w) h =
    let k = and_parts (is_letter b) (list_all is_word_byte w && nat_le (length (b ∷ w)) 255) h in
    let m = and_parts (list_all is_word_byte w) (nat_le (length (b ∷ w)) 255) k.1 in
    let all : list_all is_word_byte (b ∷ w) ≡ true = and_from (is_word_byte b) (list_all is_word_byte w) (letter_in_word b k.0) m.0 in
    and_from (nat_le (length (b ∷ w)) 255) (is_clean (b ∷ w)) m.1
    (and_from (is_utf8 (b ∷ w)) (list_all (λ c. nat_le 32 c) (b ∷ w)) (utf8_from is_word_byte word_byte_low (b ∷ w) all)
    (list_all_weaker is_word_byte (λ c. nat_le 32 c) word_byte_high (b ∷ w) all))

columns_are_plain : (cols : List ColDef) → AllByRecursion (λ (c : ColDef). IsNameWord c.name) cols → list_all (λ c. is_plain c.name) cols ≡ true
columns_are_plain cols h = all_pass (λ (c : ColDef). IsNameWord c.name) (λ c. is_plain c.name) (λ c n. word_is_plain c.name n.0) cols h

-- commands

allowed : (c : Command) → some_text is_unclean c ≡ false → names_allowed c ≡ true → is_allowed c ≡ true
allowed c clean names = and_from (not (some_text is_unclean c)) (names_allowed c) (not_from_false (some_text is_unclean c) clean) names

pub printable_is_allowed : (c : Command) → IsPrintable c → is_allowed c ≡ true
printable_is_allowed (CreateUser name) p = allowed (CreateUser name) (content_is_clean name p.parts) refl
printable_is_allowed (CreateRelation name cols key) p =
    allowed (CreateRelation name cols key) refl (and_from (nat_lt 0 (length cols)) (is_plain name && list_all (λ c. is_plain c.name) cols) (some_columns cols p.filled)
    (and_from (is_plain name) (list_all (λ c. is_plain c.name) cols) (word_is_plain name p.parts.0.0) (columns_are_plain cols p.parts.1)))
printable_is_allowed (DropUser name) p = allowed (DropUser name) (content_is_clean name p.parts) refl
printable_is_allowed (Insert users sign rel vals) p =
    allowed (Insert users sign rel vals) (or_from _ _ (users_are_clean users p.parts.0) (values_are_clean vals p.parts.2)) refl
printable_is_allowed (Delete users sign rel conds) p =
    allowed (Delete users sign rel conds) (or_from _ _ (users_are_clean users p.parts.0) (conds_are_clean IsBareColumn conds p.parts.2)) refl
printable_is_allowed (Update users sign rel sets conds) p =
    allowed (Update users sign rel sets conds) (or_from _ _ (users_are_clean users p.parts.0)
    (or_from _ _ (sets_are_clean sets p.parts.2) (conds_are_clean IsBareColumn conds p.parts.3))) refl
printable_is_allowed (Select query) p = allowed (Select query) (query_is_clean query p.parts) refl
printable_is_allowed (Explain query) p = allowed (Explain query) (query_is_clean query p.parts) refl
printable_is_allowed (ShowWorld users) p = allowed (ShowWorld users) (users_are_clean users p.parts) refl
printable_is_allowed (Why users sign rel vals) p =
    allowed (Why users sign rel vals) (or_from _ _ (users_are_clean users p.parts.0) (values_are_clean vals p.parts.2)) refl
printable_is_allowed ShowTables p = refl
printable_is_allowed Undo p = refl
printable_is_allowed Redo p = refl
