-- Commands, parsed from the tokens of their printed form.
use Rattle.std.proofs.Common.{◌≡◌, ℕ, ℤ, true, List, [], ◌∷◌, ◌++◌, map, Option, Some, None, refl, sym, ap, ◌∙◌, append_assoc}
use Rattle.std.specs.Prelude.{codes}
use Rattle.std.specs.List.{list_all, flat_map, AllByRecursion}
use Rattle.std.specs.Option.{option_map}
use Rattle.std.proofs.lemmas.Bool.{and_parts}
use Rattle.std.proofs.lemmas.List.{append-nil}
use Rattle.bdb_base.specs.declared.kinds.ColDef.{ColDef}
use Rattle.bdb_base.specs.declared.kinds.Sign.{Sign}
use Rattle.bdb_base.specs.declared.kinds.Value.{Value}
use Rattle.bdb_base.specs.Texts.{int_text}
use Rattle.bdb_lex.specs.declared.token.Token.{Token}
use Rattle.bdb_lex.specs.declared.token.Token.TheVariants.{Word, Comma, ParenL, ParenR}
use Rattle.bdb_syntax.specs.declared.command.Command.{Command}
use Rattle.bdb_syntax.specs.declared.command.Command.TheVariants.{CreateUser, DropUser, CreateRelation, Insert, Delete, Update, Select, Explain, ShowWorld, Why, ShowTables, Undo, Redo}
use Rattle.bdb_syntax.specs.declared.command.RawCol.{RawCol}
use Rattle.bdb_syntax.specs.declared.command.RawCond.{RawCond}
use Rattle.bdb_syntax.specs.declared.command.RawQuery.{RawQuery}
use Rattle.bdb_syntax.specs.declared.command.RawSet.{RawSet}
use Rattle.bdb_syntax.specs.declared.command.RawSide.{RawSide}
use Rattle.bdb_syntax.specs.declared.command.RawSide.TheVariants.{Col, Lit}
use Rattle.bdb_syntax.specs.Filled.{is_filled}
use Rattle.bdb_syntax.specs.Printable.{IsNameWord, IsBareColumn, IsFullColumn, IsPrintableSide, IsPrintableCond, IsPrintableItem, IsPrintableSet, IsPrintableQuery, IsPrintable}
use Rattle.bdb_parse.specs.declared.stop.Stop.TheVariants as stops
use Rattle.bdb_parse.specs.Numbers.{number_written}
use Rattle.bdb_parse.specs.Fits.{value_fits, cond_fits, set_fits, query_fits, key_fits, fits}
use Rattle.bdb_parse.specs.Stops.{cut}
use Rattle.bdb_parse.specs.Reading.{name_at, keyword_at, list_of, inside_at, inside_of, key_of, conds_of, beliefs_at, target_at, literal_of, col_of, test_of, cond_of, set_of, column_of, item_of, create_user_of, create_relation_of, create_of, signed_of, insert_of, delete_of, update_of, query_of, explain_of, show_world_of, show_of, why_of, drop_of, one_word_of, command_after, command_by, command_of}
use Rattle.bdb_parse.proofs.PrintedTokens.{parted, value_tokens, col_tokens, cond_tokens, where_tokens, set_tokens, column_tokens, belief_tokens, target_tokens, values_tokens, signed_tokens, item_tokens, query_tokens, key_tokens, printed_tokens}
use Rattle.bdb_parse.proofs.PrintedLexing.{both}
use Rattle.bdb_parse.proofs.ParsedLists.{IsClear, is_clear, cut_clear, cut_stop, list_parses, parted_clear}
use Rattle.bdb_parse.proofs.ParsedParts.{IsSideOf, name_takes, value_clear, full_clear, bare_clear, item_clear, cond_clear, set_clear, column_clear}
use Rattle.bdb_parse.proofs.ParsedTokens.{int_parses, value_parses, col_parses, cond_parses, test_parses, set_parses, column_parses, item_parses, begins_plain, beliefs_parse, target_parses}

side_of_printable : (IsCol : RawCol → Type 0) (s : RawSide) → IsPrintableSide IsCol s → IsSideOf IsCol s
side_of_printable IsCol (Col c) h = h
side_of_printable IsCol (Lit v) h = tt

-- the conditions behind a 'where', if there is one
abbrev where_rest : List RawCond → Option (List Token)
where_rest [] = None
where_rest (c ∷ cs) = Some (parted (Word (codes "and")) (map cond_tokens (c ∷ cs)))

where_cut : (a : List Token) (cs : List RawCond) → is_clear stops.Where a ≡ true → cut stops.Where (a ++ where_tokens cs) ≡ (a, where_rest cs)
where_cut a [] h = ap (cut stops.Where) (append-nil a) ∙ cut_clear stops.Where a h
where_cut a (c ∷ cs) h = cut_stop stops.Where a (Word (codes "where")) (parted (Word (codes "and")) (map cond_tokens (c ∷ cs))) h refl

-- a condition that is printable, with a literal in range
abbrev CondOk : (RawCol → Type 0) → RawCond → Type 0
CondOk IsCol c = IsPrintableCond IsCol c × (cond_fits c ≡ true)

conds_parse : (IsCol : RawCol → Type 0) (read : List Token → Option RawCond) → ((c : RawCol) → IsCol c → IsClear (col_tokens c)) → ((c : RawCond) → CondOk IsCol c → read (cond_tokens c) ≡ Some c)
    → (cs : List RawCond) → AllByRecursion (IsPrintableCond IsCol) cs → list_all cond_fits cs ≡ true → conds_of read (where_rest cs) ≡ Some cs
conds_parse IsCol read clear each [] h f = refl
conds_parse IsCol read clear each (c ∷ cs) h f =
    list_parses read stops.And (Word (codes "and")) refl cond_tokens (CondOk IsCol) (λ x p. cond_clear IsCol clear x p.0.0 (side_of_printable IsCol x.right p.0.1)) each (c ∷ cs) refl
    (both (IsPrintableCond IsCol) cond_fits (c ∷ cs) h f)

tests_parse : (cs : List RawCond) → AllByRecursion (IsPrintableCond IsBareColumn) cs → list_all cond_fits cs ≡ true → conds_of (test_of number_written) (where_rest cs) ≡ Some cs
tests_parse cs h f = conds_parse IsBareColumn (test_of number_written) bare_clear (λ x p. test_parses x p.0.0 (side_of_printable IsBareColumn x.right p.0.1) p.1) cs h f

query_conds_parse : (cs : List RawCond) → AllByRecursion (IsPrintableCond IsFullColumn) cs → list_all cond_fits cs ≡ true → conds_of (cond_of number_written) (where_rest cs) ≡ Some cs
query_conds_parse cs h f = conds_parse IsFullColumn (cond_of number_written) full_clear (λ x p. cond_parses x p.0.0 (side_of_printable IsFullColumn x.right p.0.1) p.1) cs h f

-- the tokens in parentheses
parens_parse : (body rest : List Token) → is_clear stops.Close body ≡ true → inside_at (ParenL ∷ body ++ ParenR ∷ rest) ≡ Some (body, rest)
unfolding inside_at
parens_parse body rest h = let e : cut stops.Close (body ++ ParenR ∷ rest) ≡ (body, Some rest) = cut_stop stops.Close body ParenR rest h refl in rw e refl

inside_parses : (body : List Token) → is_clear stops.Close body ≡ true → inside_of (ParenL ∷ body ++ ParenR ∷ []) ≡ Some body
unfolding inside_of
inside_parses body h = rw (parens_parse body [] h) refl

query_parses : (q : RawQuery) → IsPrintableQuery q → is_filled q.take ≡ true → is_filled q.items ≡ true → query_fits q ≡ true
    → query_of number_written (parted Comma (map col_tokens q.take) ++ Word (codes "from") ∷ (parted Comma (map item_tokens q.items) ++ where_tokens q.conds)) ≡ Some q
unfolding query_of
query_parses q h t i f =
    let take_text = parted Comma (map col_tokens q.take) in
    let items_text = parted Comma (map item_tokens q.items) in
    let e1 : cut stops.From (take_text ++ Word (codes "from") ∷ (items_text ++ where_tokens q.conds)) ≡ (take_text, Some (items_text ++ where_tokens q.conds)) =
    cut_stop stops.From take_text (Word (codes "from")) (items_text ++ where_tokens q.conds) (parted_clear stops.From Comma refl col_tokens IsFullColumn full_clear q.take h.0) refl in
    let e2 : cut stops.Where (items_text ++ where_tokens q.conds) ≡ (items_text, where_rest q.conds) =
    where_cut items_text q.conds (parted_clear stops.Where Comma refl item_tokens IsPrintableItem item_clear q.items h.1) in
    let e3 : list_of col_of stops.Comma take_text ≡ Some q.take = list_parses col_of stops.Comma Comma refl col_tokens IsFullColumn full_clear col_parses q.take t h.0 in
    let e4 : list_of item_of stops.Comma items_text ≡ Some q.items = list_parses item_of stops.Comma Comma refl item_tokens IsPrintableItem item_clear item_parses q.items i h.1 in
    let e5 : conds_of (cond_of number_written) (where_rest q.conds) ≡ Some q.conds = query_conds_parse q.conds h.2 f in
    rw (e1, e2, e3, e4, e5) refl

query_shape : (q : RawQuery) → query_tokens q ≡ Word (codes "select") ∷ (parted Comma (map col_tokens q.take) ++ Word (codes "from") ∷ (parted Comma (map item_tokens q.items) ++ where_tokens q.conds))
query_shape q = simp append_assoc

vals_parse : (vals : List Value) → is_filled vals ≡ true → list_all value_fits vals ≡ true → list_of (literal_of number_written) stops.Comma (parted Comma (map value_tokens vals)) ≡ Some vals
vals_parse vals h f =
    list_parses (literal_of number_written) stops.Comma Comma refl value_tokens (λ v. value_fits v ≡ true) (λ v p. value_clear v) value_parses vals h (each vals f)
  where
    each : (xs : List Value) → list_all value_fits xs ≡ true → AllByRecursion (λ v. value_fits v ≡ true) xs
    each [] k = tt
    each (x ∷ xs) k = let p = and_parts (value_fits x) (list_all value_fits xs) k in (p.0, each xs p.1)

vals_clear : (vals : List Value) → is_clear stops.Close (parted Comma (map value_tokens vals)) ≡ true
vals_clear vals = parted_clear stops.Close Comma refl value_tokens (λ v. Unit {0}) (λ v p. value_clear v) vals (each vals)
  where
    each : (xs : List Value) → AllByRecursion (λ (v : Value). Unit {0}) xs
    each [] = tt
    each (x ∷ xs) = (tt, each xs)

where_plain : (cs : List RawCond) → begins_plain (where_tokens cs) ≡ true
where_plain [] = refl
where_plain (c ∷ cs) = refl

-- the length of a key, where it is said
key_parses : (key : Option ℤ) → key_fits key ≡ true → key_of number_written (key_tokens key) ≡ Some key
unfolding key_of keyword_at
key_parses None f = refl
key_parses (Some length) f = let e : number_written (int_text length) ≡ Some length = int_parses length f in rw e refl

create_relation_parses : (name : List ℕ) (cols : List ColDef) (key : Option ℤ) → IsNameWord name → AllByRecursion (λ (c : ColDef). IsNameWord c.name) cols → is_filled cols ≡ true
    → key_fits key ≡ true
    → create_relation_of number_written (Word name ∷ ParenL ∷ (parted Comma (map column_tokens cols) ++ ParenR ∷ key_tokens key)) ≡ Some (CreateRelation name cols key)
unfolding create_relation_of
create_relation_parses name cols key h k f fit =
    let body = parted Comma (map column_tokens cols) in
    let rest = ParenL ∷ (body ++ ParenR ∷ key_tokens key) in
    let e1 : name_at (Word name ∷ rest) ≡ Some (name, rest) = name_takes name rest h in
    let e2 : inside_at rest ≡ Some (body, key_tokens key) =
    parens_parse body (key_tokens key) (parted_clear stops.Close Comma refl column_tokens (λ (c : ColDef). IsNameWord c.name) column_clear cols k) in
    let e3 : list_of column_of stops.Comma body ≡ Some cols = list_parses column_of stops.Comma Comma refl column_tokens (λ (c : ColDef). IsNameWord c.name) column_clear column_parses cols f k in
    rw (e1, e2, e3, key_parses key fit) refl

signed_parses : (users : List (List ℕ)) (sign : Sign) (rel : List ℕ) (vals : List Value) → IsNameWord rel → is_filled vals ≡ true → list_all value_fits vals ≡ true
    → signed_of number_written (signed_tokens users sign rel vals) ≡ Some (record { users = users; sign = sign; rel = rel }, vals)
unfolding signed_of keyword_at
signed_parses users sign rel vals h k f =
    let body = parted Comma (map value_tokens vals) in
    let e1 : target_at (target_tokens users sign rel ++ values_tokens vals) ≡ Some (record { users = users; sign = sign; rel = rel }, values_tokens vals) =
    target_parses users sign rel (values_tokens vals) h refl in
    let e2 : inside_of (ParenL ∷ (body ++ ParenR ∷ [])) ≡ Some body = inside_parses body (vals_clear vals) in
    rw (e1, e2, vals_parse vals k f) refl

insert_parses : (users : List (List ℕ)) (sign : Sign) (rel : List ℕ) (vals : List Value) → IsNameWord rel → is_filled vals ≡ true → list_all value_fits vals ≡ true
    → insert_of number_written (Word (codes "into") ∷ signed_tokens users sign rel vals) ≡ Some (Insert users sign rel vals)
unfolding insert_of keyword_at
insert_parses users sign rel vals h k f = rw (signed_parses users sign rel vals h k f) refl

why_parses : (users : List (List ℕ)) (sign : Sign) (rel : List ℕ) (vals : List Value) → IsNameWord rel → is_filled vals ≡ true → list_all value_fits vals ≡ true
    → why_of number_written (signed_tokens users sign rel vals) ≡ Some (Why users sign rel vals)
unfolding why_of
why_parses users sign rel vals h k f = rw (signed_parses users sign rel vals h k f) refl

delete_parses : (users : List (List ℕ)) (sign : Sign) (rel : List ℕ) (conds : List RawCond) → IsNameWord rel → AllByRecursion (IsPrintableCond IsBareColumn) conds → list_all cond_fits conds ≡ true
    → delete_of number_written (Word (codes "from") ∷ (target_tokens users sign rel ++ where_tokens conds)) ≡ Some (Delete users sign rel conds)
unfolding delete_of keyword_at
delete_parses users sign rel conds h k f =
    let e1 : target_at (target_tokens users sign rel ++ where_tokens conds) ≡ Some (record { users = users; sign = sign; rel = rel }, where_tokens conds) =
    target_parses users sign rel (where_tokens conds) h (where_plain conds) in
    let e2 : cut stops.Where (where_tokens conds) ≡ ([], where_rest conds) = where_cut [] conds refl in
    rw (e1, e2, tests_parse conds k f) refl

update_parses : (users : List (List ℕ)) (sign : Sign) (rel : List ℕ) (sets : List RawSet) (conds : List RawCond) → IsNameWord rel → AllByRecursion IsPrintableSet sets → is_filled sets ≡ true
    → list_all set_fits sets ≡ true → AllByRecursion (IsPrintableCond IsBareColumn) conds → list_all cond_fits conds ≡ true
    → update_of number_written (target_tokens users sign rel ++ Word (codes "set") ∷ (parted Comma (map set_tokens sets) ++ where_tokens conds)) ≡ Some (Update users sign rel sets conds)
unfolding update_of keyword_at
update_parses users sign rel sets conds h k filled fit l f =
    let body = parted Comma (map set_tokens sets) in
    let rest = Word (codes "set") ∷ (body ++ where_tokens conds) in
    let e1 : target_at (target_tokens users sign rel ++ rest) ≡ Some (record { users = users; sign = sign; rel = rel }, rest) = target_parses users sign rel rest h refl in
    let e2 : cut stops.Where (body ++ where_tokens conds) ≡ (body, where_rest conds) =
    where_cut body conds (parted_clear stops.Where Comma refl set_tokens IsPrintableSet (λ s p. set_clear s p.0) sets k) in
    let e3 : list_of (set_of number_written) stops.Comma body ≡ Some sets =
    list_parses (set_of number_written) stops.Comma Comma refl set_tokens (λ s. IsPrintableSet s × (set_fits s ≡ true)) (λ s p. set_clear s p.0.0) (λ s p. set_parses s p.0.0 p.1)
    sets filled (both IsPrintableSet set_fits sets k fit) in
    rw (e1, e2, e3, tests_parse conds l f) refl

show_parses : (users : List (List ℕ)) → show_world_of (flat_map belief_tokens users) ≡ Some (ShowWorld users)
unfolding show_world_of
show_parses users =
    let e : beliefs_at (flat_map belief_tokens users) ≡ (users, []) = ap beliefs_at (sym (append-nil (flat_map belief_tokens users))) ∙ beliefs_parse users [] refl in
    rw e refl

-- the tokens of a printed command are parsed as the command
pub tokens_parse : (c : Command) → IsPrintable c → fits c ≡ true → command_of (printed_tokens c) ≡ Some c
unfolding command_of command_by command_after create_of create_user_of drop_of one_word_of show_of explain_of keyword_at
tokens_parse (CreateUser name) p f = refl
tokens_parse (DropUser name) p f = refl
tokens_parse (CreateRelation name cols key) p f =
    let shape : printed_tokens (CreateRelation name cols key) ≡ Word (codes "create") ∷ Word (codes "relation") ∷ Word name ∷ ParenL ∷ (parted Comma (map column_tokens cols) ++ ParenR ∷ key_tokens key) =
    simp append_assoc in
    ap command_of shape ∙ create_relation_parses name cols key p.parts.0 p.parts.1 p.filled f
tokens_parse (Insert users sign rel vals) p f = insert_parses users sign rel vals p.parts.1 p.filled f
tokens_parse (Delete users sign rel conds) p f = delete_parses users sign rel conds p.parts.1 p.parts.2 f
tokens_parse (Update users sign rel sets conds) p f =
    let fit = and_parts (list_all set_fits sets) (list_all cond_fits conds) f in
    let shape : printed_tokens (Update users sign rel sets conds) ≡ Word (codes "update") ∷ (target_tokens users sign rel ++ Word (codes "set") ∷ (parted Comma (map set_tokens sets) ++ where_tokens conds)) =
    simp append_assoc in
    ap command_of shape ∙ update_parses users sign rel sets conds p.parts.1 p.parts.2 p.filled fit.0 p.parts.3 fit.1
tokens_parse (Select query) p f =
    let filled = and_parts (is_filled query.take) (is_filled query.items) p.filled in
    ap command_of (query_shape query) ∙ ap (λ o. option_map Select o) (query_parses query p.parts filled.0 filled.1 f)
tokens_parse (Explain query) p f =
    let filled = and_parts (is_filled query.take) (is_filled query.items) p.filled in
    ap (λ ts. command_of (Word (codes "explain") ∷ ts)) (query_shape query) ∙ ap (λ o. option_map Explain o) (query_parses query p.parts filled.0 filled.1 f)
tokens_parse (ShowWorld users) p f = show_parses users
tokens_parse (Why users sign rel vals) p f = why_parses users sign rel vals p.parts.1 p.filled f
tokens_parse ShowTables p f = refl
tokens_parse Undo p f = refl
tokens_parse Redo p f = refl
