-- What is in the grammar is read: commands.
use Rattle.std.proofs.Common.{◌≡◌, ℕ, ℤ, Bool, true, false, cond, List, [], ◌∷◌, ◌++◌, Option, Some, refl, sym, ap, ◌∙◌}
use Rattle.std.specs.Prelude.{codes}
use Rattle.std.specs.Option.{option_map}
use Rattle.std.proofs.lemmas.List.{append-nil}
use Rattle.bdb_base.specs.declared.kinds.Value.{Value}
use Rattle.bdb_base.specs.declared.kinds.Sign.{Sign}
use Rattle.bdb_base.specs.declared.kinds.ColDef.{ColDef}
use Rattle.bdb_lex.specs.declared.token.Token.{Token}
use Rattle.bdb_lex.specs.declared.token.Token.TheVariants.{Word, Text, Comma, ParenL, ParenR}
use Rattle.bdb_syntax.specs.declared.command.RawCol.{RawCol}
use Rattle.bdb_syntax.specs.declared.command.RawCond.{RawCond}
use Rattle.bdb_syntax.specs.declared.command.RawItem.{RawItem}
use Rattle.bdb_syntax.specs.declared.command.RawSet.{RawSet}
use Rattle.bdb_syntax.specs.declared.command.RawQuery.{RawQuery}
use Rattle.bdb_syntax.specs.declared.command.Command.{Command}
use Rattle.bdb_syntax.specs.declared.command.Command.TheVariants.{CreateUser, DropUser, CreateRelation, Insert, Delete, Update, Select, Explain, ShowWorld, Why, ShowTables, Undo, Redo}
use Rattle.bdb_syntax.specs.Keywords.{is_keyword}
use Rattle.bdb_parse.specs.declared.stop.Stop.TheVariants as stops
use Rattle.bdb_parse.specs.declared.target.Target.{Target}
use Rattle.bdb_parse.specs.Numbers.{number_written}
use Rattle.bdb_parse.specs.Stops.{cut}
use Rattle.bdb_parse.specs.Grammar.{◌▸◌, IsToken, IsKeyword, IsName, IsKeyClause, IsLiteral, AreSeparated, AreRepeated, IsBelief, IsColumn, IsBareCol, IsFullCol, AreConds, IsSet, IsItem, IsTarget, IsSigned, IsQuery, IsCommand}
use Rattle.bdb_parse.specs.Reading.{◌>>=◌, end_at, word_at, text_at, keyword_at, name_at, literal_of, set_of, col_of, test_of, cond_of, list_of, conds_of, inside_at, inside_of, key_of, target_at, column_of, item_of, create_user_of, create_relation_of, create_of, signed_of, insert_of, delete_of, update_of, query_of, explain_of, show_world_of, show_of, why_of, drop_of, one_word_of, command_after, command_by, command_of, beliefs_at}
use Rattle.bdb_parse.proofs.Takes.{head_is, word_takes, keyword_takes, name_takes, other_keyword, cut_at, separated_free, list_takes, comma_stops, comma_free}
use Rattle.bdb_parse.specs.Laws.{CommandsAreRead}
use Rattle.bdb_parse.proofs.SoundCommands.{command_sound}
use Rattle.bdb_parse.proofs.TakesParts.{then_some, literal_takes, literal_free, column_takes, column_free, set_takes, set_free, full_takes, full_free, test_free, cond_free, test_takes, cond_takes, item_takes, item_free, target_takes, beliefs_take, conds_take, key_takes, parens_take, inside_takes}

columns_take : (cols : List ColDef) (ts : List Token) → AreSeparated IsColumn (IsToken Comma) cols ts → list_of column_of stops.Comma ts ≡ Some cols
columns_take cols ts h =
    list_takes IsColumn (IsToken Comma) column_of stops.Comma column_takes (λ c us i. column_free c stops.Comma us i) comma_stops cols ts h

literals_take : (vals : List Value) (ts : List Token) → AreSeparated IsLiteral (IsToken Comma) vals ts → list_of (literal_of number_written) stops.Comma ts ≡ Some vals
literals_take vals ts h =
    list_takes IsLiteral (IsToken Comma) (literal_of number_written) stops.Comma literal_takes (λ v us i. literal_free v stops.Comma us i) comma_stops vals ts h

sets_take : (sets : List RawSet) (ts : List Token) → AreSeparated IsSet (IsToken Comma) sets ts → list_of (set_of number_written) stops.Comma ts ≡ Some sets
sets_take sets ts h =
    list_takes IsSet (IsToken Comma) (set_of number_written) stops.Comma set_takes (λ s us i. set_free s stops.Comma us i) comma_stops sets ts h

taken_take : (cols : List RawCol) (ts : List Token) → AreSeparated IsFullCol (IsToken Comma) cols ts → list_of col_of stops.Comma ts ≡ Some cols
taken_take cols ts h =
    list_takes IsFullCol (IsToken Comma) col_of stops.Comma full_takes (λ c us i. full_free c stops.Comma us i) comma_stops cols ts h

items_take : (items : List RawItem) (ts : List Token) → AreSeparated IsItem (IsToken Comma) items ts → list_of item_of stops.Comma ts ≡ Some items
items_take items ts h =
    list_takes IsItem (IsToken Comma) item_of stops.Comma item_takes (item_free stops.Comma) comma_stops items ts h

-- the test of a first word, and the branch that it takes
picks : {X : Type 0} (b : Bool) (o p : Option X) (x : X) → b ≡ true → o ≡ Some x → cond b o p ≡ Some x
picks true o p x e h = h
picks false o p x e h = cc

passes : {X : Type 0} (b : Bool) (o p : Option X) (x : X) → b ≡ false → p ≡ Some x → cond b o p ≡ Some x
passes true o p x e h = cc
passes false o p x e h = h

create_user_takes : (name : List ℕ) (ts : List Token) → (IsKeyword (codes "user") ▸ IsToken (Text name)) ts → create_of number_written ts ≡ Some (CreateUser name)
unfolding create_of create_user_of
create_user_takes name ts h =
    let c = CreateUser name in
    then_some (word_at ts) (h.3.0, h.1) _ c (word_takes (codes "user") (IsToken (Text name)) ts h)
    (picks (is_keyword (codes "user") h.3.0) _ _ c h.3.2
    (then_some (text_at h.1) (name, []) _ c (ap text_at h.4) refl))

create_relation_takes : (name : List ℕ) (cols : List ColDef) (key : Option ℤ) (ts : List Token)
    → (IsKeyword (codes "relation") ▸ IsName name ▸ IsToken ParenL ▸ AreSeparated IsColumn (IsToken Comma) cols ▸ IsToken ParenR ▸ IsKeyClause key) ts
    → create_of number_written ts ≡ Some (CreateRelation name cols key)
unfolding create_of create_relation_of
create_relation_takes name cols key ts h =
    let c = CreateRelation name cols key in
    let Cols = AreSeparated IsColumn (IsToken Comma) cols in
    let Body = IsToken ParenL ▸ Cols ▸ IsToken ParenR ▸ IsKeyClause key in
    let n = h.4 in
    let i = parens_take Cols (IsKeyClause key) (separated_free IsColumn (IsToken Comma) stops.Close (λ x us j. column_free x stops.Close us j) (comma_free stops.Close refl) cols) n.1 n.4 in
    then_some (word_at ts) (h.3.0, h.1) _ c (word_takes (codes "relation") (IsName name ▸ Body) ts h)
    (passes (is_keyword (codes "user") h.3.0) _ _ c (other_keyword (codes "relation") (codes "user") h.3.0 h.3.2 refl)
    (picks (is_keyword (codes "relation") h.3.0) _ _ c h.3.2
    (then_some (name_at h.1) (name, n.1) _ c (name_takes name Body h.1 n)
    (then_some (inside_at n.1) i.0 _ c i.1
    (then_some (list_of column_of stops.Comma i.0.0) cols _ c (columns_take cols i.0.0 i.2)
    (then_some (key_of number_written i.0.1) key _ c (key_takes key i.0.1 i.3) refl))))))

signed_takes : (users : List (List ℕ)) (sign : Sign) (rel : List ℕ) (vals : List Value) (ts : List Token) → IsSigned users sign rel vals ts → signed_of number_written ts ≡ Some (record { users = users; sign = sign; rel = rel }, vals)
unfolding signed_of
signed_takes users sign rel vals ts h =
    let made : Target × List Value = (record { users = users; sign = sign; rel = rel }, vals) in
    let Vals = AreSeparated IsLiteral (IsToken Comma) vals in
    let Body = IsToken ParenL ▸ Vals ▸ IsToken ParenR in
    let t = target_takes users sign rel (IsKeyword (codes "values") ▸ Body) ts h in
    let v = t.2 in
    let i = inside_takes Vals (separated_free IsLiteral (IsToken Comma) stops.Close (λ x us j. literal_free x stops.Close us j) (comma_free stops.Close refl) vals) v.1 v.4 in
    then_some (target_at ts) (record { users = users; sign = sign; rel = rel }, t.0) _ made t.1
    (then_some (keyword_at (codes "values") t.0) v.1 _ made (keyword_takes (codes "values") Body t.0 v)
    (then_some (inside_of v.1) i.0 _ made i.1
    (then_some (list_of (literal_of number_written) stops.Comma i.0) vals _ made (literals_take vals i.0 i.2) refl)))

insert_takes : (users : List (List ℕ)) (sign : Sign) (rel : List ℕ) (vals : List Value) (ts : List Token) → (IsKeyword (codes "into") ▸ IsSigned users sign rel vals) ts → insert_of number_written ts ≡ Some (Insert users sign rel vals)
unfolding insert_of
insert_takes users sign rel vals ts h =
    let c = Insert users sign rel vals in
    then_some (keyword_at (codes "into") ts) h.1 _ c (keyword_takes (codes "into") (IsSigned users sign rel vals) ts h)
    (then_some (signed_of number_written h.1) (record { users = users; sign = sign; rel = rel }, vals) _ c (signed_takes users sign rel vals h.1 h.4) refl)

delete_takes : (users : List (List ℕ)) (sign : Sign) (rel : List ℕ) (conds : List RawCond) (ts : List Token) → (IsKeyword (codes "from") ▸ IsTarget users sign rel (AreConds IsBareCol conds)) ts → delete_of number_written ts ≡ Some (Delete users sign rel conds)
unfolding delete_of
delete_takes users sign rel conds ts h =
    let c = Delete users sign rel conds in
    let After = AreConds IsBareCol conds in
    let t = target_takes users sign rel After h.1 h.4 in
    let d = conds_take IsBareCol (test_of number_written) test_takes (test_free stops.And) conds [] t.0 tt t.2 in
    let made : List Token × Option (List Token) → Option Command = λ p. end_at p.0 >>= λ _. conds_of (test_of number_written) p.1 >>= λ cs. Some (Delete users sign rel cs) in
    then_some (keyword_at (codes "from") ts) h.1 _ c (keyword_takes (codes "from") (IsTarget users sign rel After) ts h)
    (then_some (target_at h.1) (record { users = users; sign = sign; rel = rel }, t.0) _ c t.1
    (ap made d.1 ∙ ap (λ (o : Option (List RawCond)). o >>= λ cs. Some (Delete users sign rel cs)) d.2))

update_takes : (users : List (List ℕ)) (sign : Sign) (rel : List ℕ) (sets : List RawSet) (conds : List RawCond) (ts : List Token) → IsTarget users sign rel (IsKeyword (codes "set") ▸ AreSeparated IsSet (IsToken Comma) sets ▸ AreConds IsBareCol conds) ts → update_of number_written ts ≡ Some (Update users sign rel sets conds)
unfolding update_of
update_takes users sign rel sets conds ts h =
    let c = Update users sign rel sets conds in
    let Sets = AreSeparated IsSet (IsToken Comma) sets in
    let Body = Sets ▸ AreConds IsBareCol conds in
    let t = target_takes users sign rel (IsKeyword (codes "set") ▸ Body) ts h in
    let k = t.2 in
    let b = k.4 in
    let free = separated_free IsSet (IsToken Comma) stops.Where (λ x us j. set_free x stops.Where us j) (comma_free stops.Where refl) sets b.0 b.3 in
    let d = conds_take IsBareCol (test_of number_written) test_takes (test_free stops.And) conds b.0 b.1 free b.4 in
    let made : List Token × Option (List Token) → Option Command = λ p. list_of (set_of number_written) stops.Comma p.0 >>= λ ss. conds_of (test_of number_written) p.1 >>= λ cs. Some (Update users sign rel ss cs) in
    then_some (target_at ts) (record { users = users; sign = sign; rel = rel }, t.0) _ c t.1
    (then_some (keyword_at (codes "set") t.0) k.1 _ c (keyword_takes (codes "set") Body t.0 k)
    (ap made (ap (cut stops.Where) b.2 ∙ d.1)
    ∙ then_some (list_of (set_of number_written) stops.Comma b.0) sets (λ ss. conds_of (test_of number_written) d.0 >>= λ cs. Some (Update users sign rel ss cs)) c (sets_take sets b.0 b.3)
    (ap (λ (o : Option (List RawCond)). o >>= λ cs. Some (Update users sign rel sets cs)) d.2)))

query_takes : (q : RawQuery) (ts : List Token) → (AreSeparated IsFullCol (IsToken Comma) q.take ▸ IsKeyword (codes "from") ▸ AreSeparated IsItem (IsToken Comma) q.items ▸ AreConds IsFullCol q.conds) ts → query_of number_written ts ≡ Some q
unfolding query_of
query_takes q ts h =
    let f = h.4 in
    let b = f.4 in
    let whole : ts ≡ h.0 ++ Word f.3.0 ∷ f.1 = h.2 ∙ ap (λ (r : List Token). h.0 ++ r) (head_is h.1 f.0 f.1 (Word f.3.0) f.2 f.3.1) in
    let take_free = separated_free IsFullCol (IsToken Comma) stops.From (λ x us j. full_free x stops.From us j) (comma_free stops.From refl) q.take h.0 h.3 in
    let first : cut stops.From ts ≡ (h.0, Some f.1) = ap (cut stops.From) whole ∙ cut_at stops.From h.0 (Word f.3.0) f.1 take_free f.3.2 in
    let items_free = separated_free IsItem (IsToken Comma) stops.Where (item_free stops.Where) (comma_free stops.Where refl) q.items b.0 b.3 in
    let d = conds_take IsFullCol (cond_of number_written) cond_takes (cond_free stops.And) q.conds b.0 b.1 items_free b.4 in
    let second : cut stops.Where f.1 ≡ (b.0, d.0) = ap (cut stops.Where) b.2 ∙ d.1 in
    let inner : List Token → List Token × Option (List Token) → Option RawQuery = λ cols p. list_of col_of stops.Comma cols >>= λ take. list_of item_of stops.Comma p.0 >>= λ items. conds_of (cond_of number_written) p.1 >>= λ conds. Some (record { take = take; items = items; conds = conds }) in
    let outer : List Token × Option (List Token) → Option RawQuery = λ p. p.1 >>= λ rest. inner p.0 (cut stops.Where rest) in
    ap outer first
    ∙ (ap (inner h.0) second
    ∙ then_some (list_of col_of stops.Comma h.0) q.take _ q (taken_take q.take h.0 h.3)
    (then_some (list_of item_of stops.Comma b.0) q.items _ q (items_take q.items b.0 b.3)
    (then_some (conds_of (cond_of number_written) d.0) q.conds _ q d.2 refl)))

explain_takes : (q : RawQuery) (ts : List Token) → IsQuery q ts → explain_of number_written ts ≡ Some (Explain q)
unfolding explain_of
explain_takes q ts h =
    let After = AreSeparated IsFullCol (IsToken Comma) q.take ▸ IsKeyword (codes "from") ▸ AreSeparated IsItem (IsToken Comma) q.items ▸ AreConds IsFullCol q.conds in
    then_some (keyword_at (codes "select") ts) h.1 _ (Explain q) (keyword_takes (codes "select") After ts h)
    (ap (option_map Explain) (query_takes q h.1 h.4))

show_world_takes : (users : List (List ℕ)) (ts : List Token) → (IsKeyword (codes "world") ▸ AreRepeated IsBelief users) ts → show_of ts ≡ Some (ShowWorld users)
unfolding show_of show_world_of
show_world_takes users ts h =
    let c = ShowWorld users in
    let made : List (List ℕ) × List Token → Option Command = λ p. end_at p.1 >>= λ _. Some (ShowWorld p.0) in
    then_some (word_at ts) (h.3.0, h.1) _ c (word_takes (codes "world") (AreRepeated IsBelief users) ts h)
    (picks (is_keyword (codes "world") h.3.0) _ _ c h.3.2
    (ap made (ap beliefs_at (sym (append-nil h.1)) ∙ beliefs_take users h.1 [] h.4 refl)))

show_tables_takes : (ts : List Token) → IsKeyword (codes "tables") ts → show_of ts ≡ Some ShowTables
unfolding show_of
show_tables_takes ts h =
    then_some (word_at ts) (h.0, []) _ ShowTables (ap word_at h.1)
    (passes (is_keyword (codes "world") h.0) _ _ ShowTables (other_keyword (codes "tables") (codes "world") h.0 h.2 refl)
    (picks (is_keyword (codes "tables") h.0) _ _ ShowTables h.2 refl))

why_takes : (users : List (List ℕ)) (sign : Sign) (rel : List ℕ) (vals : List Value) (ts : List Token) → IsSigned users sign rel vals ts → why_of number_written ts ≡ Some (Why users sign rel vals)
unfolding why_of
why_takes users sign rel vals ts h =
    then_some (signed_of number_written ts) (record { users = users; sign = sign; rel = rel }, vals) _ (Why users sign rel vals) (signed_takes users sign rel vals ts h) refl

drop_user_takes : (name : List ℕ) (ts : List Token) → (IsKeyword (codes "user") ▸ IsToken (Text name)) ts → drop_of ts ≡ Some (DropUser name)
unfolding drop_of
drop_user_takes name ts h =
    let c = DropUser name in
    then_some (keyword_at (codes "user") ts) h.1 _ c (keyword_takes (codes "user") (IsToken (Text name)) ts h)
    (then_some (text_at h.1) (name, []) _ c (ap text_at h.4) refl)

-- a first word decides which command follows
first_takes : (keyword : List ℕ) (Q : List Token → Type 0) (ts : List Token) (c : Command) → (h : (IsKeyword keyword ▸ Q) ts) → command_after number_written h.3.0 h.1 ≡ Some c → command_of ts ≡ Some c
unfolding command_of command_by
first_takes keyword Q ts c h e =
    then_some (word_at ts) (h.3.0, h.1) _ c (word_takes keyword Q ts h) e

create_after : (w : List ℕ) (ts : List Token) (c : Command) → is_keyword (codes "create") w ≡ true → create_of number_written ts ≡ Some c → command_after number_written w ts ≡ Some c
unfolding command_after
create_after w ts c k e = picks (is_keyword (codes "create") w) _ _ c k e

insert_after : (w : List ℕ) (ts : List Token) (c : Command) → is_keyword (codes "insert") w ≡ true → insert_of number_written ts ≡ Some c → command_after number_written w ts ≡ Some c
unfolding command_after
insert_after w ts c k e =
    passes (is_keyword (codes "create") w) _ _ c (other_keyword (codes "insert") (codes "create") w k refl)
    (picks (is_keyword (codes "insert") w) _ _ c k e)

delete_after : (w : List ℕ) (ts : List Token) (c : Command) → is_keyword (codes "delete") w ≡ true → delete_of number_written ts ≡ Some c → command_after number_written w ts ≡ Some c
unfolding command_after
delete_after w ts c k e =
    passes (is_keyword (codes "create") w) _ _ c (other_keyword (codes "delete") (codes "create") w k refl)
    (passes (is_keyword (codes "insert") w) _ _ c (other_keyword (codes "delete") (codes "insert") w k refl)
    (picks (is_keyword (codes "delete") w) _ _ c k e))

update_after : (w : List ℕ) (ts : List Token) (c : Command) → is_keyword (codes "update") w ≡ true → update_of number_written ts ≡ Some c → command_after number_written w ts ≡ Some c
unfolding command_after
update_after w ts c k e =
    passes (is_keyword (codes "create") w) _ _ c (other_keyword (codes "update") (codes "create") w k refl)
    (passes (is_keyword (codes "insert") w) _ _ c (other_keyword (codes "update") (codes "insert") w k refl)
    (passes (is_keyword (codes "delete") w) _ _ c (other_keyword (codes "update") (codes "delete") w k refl)
    (picks (is_keyword (codes "update") w) _ _ c k e)))

select_after : (w : List ℕ) (ts : List Token) (c : Command) → is_keyword (codes "select") w ≡ true → option_map Select (query_of number_written ts) ≡ Some c → command_after number_written w ts ≡ Some c
unfolding command_after
select_after w ts c k e =
    passes (is_keyword (codes "create") w) _ _ c (other_keyword (codes "select") (codes "create") w k refl)
    (passes (is_keyword (codes "insert") w) _ _ c (other_keyword (codes "select") (codes "insert") w k refl)
    (passes (is_keyword (codes "delete") w) _ _ c (other_keyword (codes "select") (codes "delete") w k refl)
    (passes (is_keyword (codes "update") w) _ _ c (other_keyword (codes "select") (codes "update") w k refl)
    (picks (is_keyword (codes "select") w) _ _ c k e))))

explain_after : (w : List ℕ) (ts : List Token) (c : Command) → is_keyword (codes "explain") w ≡ true → explain_of number_written ts ≡ Some c → command_after number_written w ts ≡ Some c
unfolding command_after
explain_after w ts c k e =
    passes (is_keyword (codes "create") w) _ _ c (other_keyword (codes "explain") (codes "create") w k refl)
    (passes (is_keyword (codes "insert") w) _ _ c (other_keyword (codes "explain") (codes "insert") w k refl)
    (passes (is_keyword (codes "delete") w) _ _ c (other_keyword (codes "explain") (codes "delete") w k refl)
    (passes (is_keyword (codes "update") w) _ _ c (other_keyword (codes "explain") (codes "update") w k refl)
    (passes (is_keyword (codes "select") w) _ _ c (other_keyword (codes "explain") (codes "select") w k refl)
    (picks (is_keyword (codes "explain") w) _ _ c k e)))))

show_after : (w : List ℕ) (ts : List Token) (c : Command) → is_keyword (codes "show") w ≡ true → show_of ts ≡ Some c → command_after number_written w ts ≡ Some c
unfolding command_after
show_after w ts c k e =
    passes (is_keyword (codes "create") w) _ _ c (other_keyword (codes "show") (codes "create") w k refl)
    (passes (is_keyword (codes "insert") w) _ _ c (other_keyword (codes "show") (codes "insert") w k refl)
    (passes (is_keyword (codes "delete") w) _ _ c (other_keyword (codes "show") (codes "delete") w k refl)
    (passes (is_keyword (codes "update") w) _ _ c (other_keyword (codes "show") (codes "update") w k refl)
    (passes (is_keyword (codes "select") w) _ _ c (other_keyword (codes "show") (codes "select") w k refl)
    (passes (is_keyword (codes "explain") w) _ _ c (other_keyword (codes "show") (codes "explain") w k refl)
    (picks (is_keyword (codes "show") w) _ _ c k e))))))

why_after : (w : List ℕ) (ts : List Token) (c : Command) → is_keyword (codes "why") w ≡ true → why_of number_written ts ≡ Some c → command_after number_written w ts ≡ Some c
unfolding command_after
why_after w ts c k e =
    passes (is_keyword (codes "create") w) _ _ c (other_keyword (codes "why") (codes "create") w k refl)
    (passes (is_keyword (codes "insert") w) _ _ c (other_keyword (codes "why") (codes "insert") w k refl)
    (passes (is_keyword (codes "delete") w) _ _ c (other_keyword (codes "why") (codes "delete") w k refl)
    (passes (is_keyword (codes "update") w) _ _ c (other_keyword (codes "why") (codes "update") w k refl)
    (passes (is_keyword (codes "select") w) _ _ c (other_keyword (codes "why") (codes "select") w k refl)
    (passes (is_keyword (codes "explain") w) _ _ c (other_keyword (codes "why") (codes "explain") w k refl)
    (passes (is_keyword (codes "show") w) _ _ c (other_keyword (codes "why") (codes "show") w k refl)
    (picks (is_keyword (codes "why") w) _ _ c k e)))))))

drop_after : (w : List ℕ) (ts : List Token) (c : Command) → is_keyword (codes "drop") w ≡ true → drop_of ts ≡ Some c → command_after number_written w ts ≡ Some c
unfolding command_after
drop_after w ts c k e =
    passes (is_keyword (codes "create") w) _ _ c (other_keyword (codes "drop") (codes "create") w k refl)
    (passes (is_keyword (codes "insert") w) _ _ c (other_keyword (codes "drop") (codes "insert") w k refl)
    (passes (is_keyword (codes "delete") w) _ _ c (other_keyword (codes "drop") (codes "delete") w k refl)
    (passes (is_keyword (codes "update") w) _ _ c (other_keyword (codes "drop") (codes "update") w k refl)
    (passes (is_keyword (codes "select") w) _ _ c (other_keyword (codes "drop") (codes "select") w k refl)
    (passes (is_keyword (codes "explain") w) _ _ c (other_keyword (codes "drop") (codes "explain") w k refl)
    (passes (is_keyword (codes "show") w) _ _ c (other_keyword (codes "drop") (codes "show") w k refl)
    (passes (is_keyword (codes "why") w) _ _ c (other_keyword (codes "drop") (codes "why") w k refl)
    (picks (is_keyword (codes "drop") w) _ _ c k e))))))))

undo_after : (w : List ℕ) (ts : List Token) (c : Command) → is_keyword (codes "undo") w ≡ true → one_word_of w ts ≡ Some c → command_after number_written w ts ≡ Some c
unfolding command_after
undo_after w ts c k e =
    passes (is_keyword (codes "create") w) _ _ c (other_keyword (codes "undo") (codes "create") w k refl)
    (passes (is_keyword (codes "insert") w) _ _ c (other_keyword (codes "undo") (codes "insert") w k refl)
    (passes (is_keyword (codes "delete") w) _ _ c (other_keyword (codes "undo") (codes "delete") w k refl)
    (passes (is_keyword (codes "update") w) _ _ c (other_keyword (codes "undo") (codes "update") w k refl)
    (passes (is_keyword (codes "select") w) _ _ c (other_keyword (codes "undo") (codes "select") w k refl)
    (passes (is_keyword (codes "explain") w) _ _ c (other_keyword (codes "undo") (codes "explain") w k refl)
    (passes (is_keyword (codes "show") w) _ _ c (other_keyword (codes "undo") (codes "show") w k refl)
    (passes (is_keyword (codes "why") w) _ _ c (other_keyword (codes "undo") (codes "why") w k refl)
    (passes (is_keyword (codes "drop") w) _ _ c (other_keyword (codes "undo") (codes "drop") w k refl) e))))))))

redo_after : (w : List ℕ) (ts : List Token) (c : Command) → is_keyword (codes "redo") w ≡ true → one_word_of w ts ≡ Some c → command_after number_written w ts ≡ Some c
unfolding command_after
redo_after w ts c k e =
    passes (is_keyword (codes "create") w) _ _ c (other_keyword (codes "redo") (codes "create") w k refl)
    (passes (is_keyword (codes "insert") w) _ _ c (other_keyword (codes "redo") (codes "insert") w k refl)
    (passes (is_keyword (codes "delete") w) _ _ c (other_keyword (codes "redo") (codes "delete") w k refl)
    (passes (is_keyword (codes "update") w) _ _ c (other_keyword (codes "redo") (codes "update") w k refl)
    (passes (is_keyword (codes "select") w) _ _ c (other_keyword (codes "redo") (codes "select") w k refl)
    (passes (is_keyword (codes "explain") w) _ _ c (other_keyword (codes "redo") (codes "explain") w k refl)
    (passes (is_keyword (codes "show") w) _ _ c (other_keyword (codes "redo") (codes "show") w k refl)
    (passes (is_keyword (codes "why") w) _ _ c (other_keyword (codes "redo") (codes "why") w k refl)
    (passes (is_keyword (codes "drop") w) _ _ c (other_keyword (codes "redo") (codes "drop") w k refl) e))))))))

undo_takes : (ts : List Token) → IsKeyword (codes "undo") ts → command_of ts ≡ Some Undo
unfolding command_of command_by one_word_of
undo_takes ts h =
    then_some (word_at ts) (h.0, []) _ Undo (ap word_at h.1)
    (undo_after h.0 [] Undo h.2 (picks (is_keyword (codes "undo") h.0) _ _ Undo h.2 refl))

redo_takes : (ts : List Token) → IsKeyword (codes "redo") ts → command_of ts ≡ Some Redo
unfolding command_of command_by one_word_of
redo_takes ts h =
    then_some (word_at ts) (h.0, []) _ Redo (ap word_at h.1)
    (redo_after h.0 [] Redo h.2
    (passes (is_keyword (codes "undo") h.0) _ _ Redo (other_keyword (codes "redo") (codes "undo") h.0 h.2 refl)
    (picks (is_keyword (codes "redo") h.0) _ _ Redo h.2 refl)))

pub command_takes : (c : Command) (ts : List Token) → IsCommand ts c → command_of ts ≡ Some c
command_takes (CreateUser name) ts h =
    first_takes (codes "create") (IsKeyword (codes "user") ▸ IsToken (Text name)) ts (CreateUser name) h
    (create_after h.3.0 h.1 (CreateUser name) h.3.2 (create_user_takes name h.1 h.4))
command_takes (DropUser name) ts h =
    first_takes (codes "drop") (IsKeyword (codes "user") ▸ IsToken (Text name)) ts (DropUser name) h
    (drop_after h.3.0 h.1 (DropUser name) h.3.2 (drop_user_takes name h.1 h.4))
command_takes (CreateRelation name cols key) ts h =
    first_takes (codes "create") (IsKeyword (codes "relation") ▸ IsName name ▸ IsToken ParenL ▸ AreSeparated IsColumn (IsToken Comma) cols ▸ IsToken ParenR ▸ IsKeyClause key) ts
    (CreateRelation name cols key) h
    (create_after h.3.0 h.1 (CreateRelation name cols key) h.3.2 (create_relation_takes name cols key h.1 h.4))
command_takes (Insert users sign rel vals) ts h =
    first_takes (codes "insert") (IsKeyword (codes "into") ▸ IsSigned users sign rel vals) ts (Insert users sign rel vals) h
    (insert_after h.3.0 h.1 (Insert users sign rel vals) h.3.2 (insert_takes users sign rel vals h.1 h.4))
command_takes (Delete users sign rel conds) ts h =
    first_takes (codes "delete") (IsKeyword (codes "from") ▸ IsTarget users sign rel (AreConds IsBareCol conds)) ts (Delete users sign rel conds) h
    (delete_after h.3.0 h.1 (Delete users sign rel conds) h.3.2 (delete_takes users sign rel conds h.1 h.4))
command_takes (Update users sign rel sets conds) ts h =
    first_takes (codes "update") (IsTarget users sign rel (IsKeyword (codes "set") ▸ AreSeparated IsSet (IsToken Comma) sets ▸ AreConds IsBareCol conds)) ts (Update users sign rel sets conds) h
    (update_after h.3.0 h.1 (Update users sign rel sets conds) h.3.2 (update_takes users sign rel sets conds h.1 h.4))
command_takes (Select q) ts h =
    first_takes (codes "select") (AreSeparated IsFullCol (IsToken Comma) q.take ▸ IsKeyword (codes "from") ▸ AreSeparated IsItem (IsToken Comma) q.items ▸ AreConds IsFullCol q.conds) ts (Select q) h
    (select_after h.3.0 h.1 (Select q) h.3.2 (ap (option_map Select) (query_takes q h.1 h.4)))
command_takes (Explain q) ts h =
    first_takes (codes "explain") (IsQuery q) ts (Explain q) h
    (explain_after h.3.0 h.1 (Explain q) h.3.2 (explain_takes q h.1 h.4))
command_takes (ShowWorld users) ts h =
    first_takes (codes "show") (IsKeyword (codes "world") ▸ AreRepeated IsBelief users) ts (ShowWorld users) h
    (show_after h.3.0 h.1 (ShowWorld users) h.3.2 (show_world_takes users h.1 h.4))
command_takes (Why users sign rel vals) ts h =
    first_takes (codes "why") (IsSigned users sign rel vals) ts (Why users sign rel vals) h
    (why_after h.3.0 h.1 (Why users sign rel vals) h.3.2 (why_takes users sign rel vals h.1 h.4))
command_takes ShowTables ts h =
    first_takes (codes "show") (IsKeyword (codes "tables")) ts ShowTables h
    (show_after h.3.0 h.1 ShowTables h.3.2 (show_tables_takes h.1 h.4))
command_takes Undo ts h = undo_takes ts h
command_takes Redo ts h = redo_takes ts h

-- one list of tokens spells at most one command, and it is the one that is read
pub commands_are_read : CommandsAreRead
commands_are_read ts c = (command_sound ts c, command_takes c ts)
