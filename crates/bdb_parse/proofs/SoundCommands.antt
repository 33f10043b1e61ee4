-- Each command that is read is in the grammar.
use Rattle.std.proofs.Common.{◌≡◌, ℕ, ℤ, Bool, true, false, cond, List, [], ◌∷◌, ◌++◌, Option, Some, refl, sym, ap, ◌∙◌, subst}
use Rattle.std.specs.Prelude.{codes}
use Rattle.std.proofs.lemmas.List.{append-nil}
use Rattle.bdb_base.specs.declared.kinds.Value.{Value}
use Rattle.bdb_base.specs.declared.kinds.ColDef.{ColDef}
use Rattle.bdb_lex.specs.declared.token.Token.{Token}
use Rattle.bdb_lex.specs.declared.token.Token.TheVariants.{Word, Text, Comma, ParenL, ParenR}
use Rattle.bdb_syntax.specs.declared.command.RawCol.{RawCol}
use Rattle.bdb_syntax.specs.declared.command.RawItem.{RawItem}
use Rattle.bdb_syntax.specs.declared.command.RawSet.{RawSet}
use Rattle.bdb_syntax.specs.declared.command.RawQuery.{RawQuery}
use Rattle.bdb_syntax.specs.declared.command.Command.{Command}
use Rattle.bdb_syntax.specs.declared.command.Command.TheVariants.{Select, Explain, ShowTables, Undo, Redo}
use Rattle.bdb_syntax.specs.Keywords.{is_keyword}
use Rattle.bdb_parse.specs.declared.stop.Stop.TheVariants as stops
use Rattle.bdb_parse.specs.declared.target.Target.{Target}
use Rattle.bdb_parse.specs.Numbers.{number_written}
use Rattle.bdb_parse.specs.Stops.{cut}
use Rattle.bdb_parse.specs.Grammar.{◌▸◌, IsNothing, IsToken, IsKeyword, IsName, IsKeyClause, IsLiteral, AreSeparated, AreRepeated, IsBelief, IsColumn, IsBareCol, IsFullCol, AreConds, IsSet, IsItem, IsTarget, IsSigned, IsQuery, IsCommand}
use Rattle.bdb_parse.specs.Reading.{end_at, word_at, text_at, keyword_at, name_at, literal_of, set_of, col_of, test_of, cond_of, list_of, conds_of, inside_at, inside_of, key_of, target_at, column_of, item_of, create_user_of, create_relation_of, create_of, signed_of, insert_of, delete_of, update_of, query_of, explain_of, show_world_of, show_of, why_of, drop_of, one_word_of, command_after, command_by, command_of, beliefs_at}
use Rattle.bdb_parse.proofs.FilledLemmas.{Each, each_behind, each_map, each_at}
use Rattle.bdb_parse.proofs.Sound.{end_is, word_is, text_is, keyword_is, keyword_then, word_then, name_then, beliefs_then, target_then, cut_then, comma_is, from_is, list_sound}
use Rattle.bdb_parse.proofs.SoundParts.{literal_sound, column_sound, set_sound, test_sound, cond_sound, full_sound, item_sound, parens_then, inside_then, key_sound, conds_then}

each_if : {X : Type 0} (P : X → Type 0) (b : Bool) (o p : Option X) → (b ≡ true → Each P o) → Each P p → Each P (cond b o p)
each_if P true o p h i = h refl
each_if P false o p h i = i

-- a first word, and what follows
first_then : (keyword : List ℕ) (Q : List Token → Type 0) (whole : List Token) (w : List ℕ) (ts : List Token) → whole ≡ Word w ∷ ts → is_keyword keyword w ≡ true → Q ts → (IsKeyword keyword ▸ Q) whole
first_then keyword Q whole w ts e k q = (Word w ∷ [], ts, e, (w, refl, k), q)

nothing_then : (Q : List Token → Type 0) (ts : List Token) → (IsNothing ▸ Q) ts → Q ts
nothing_then Q ts h = subst Q (sym (h.2 ∙ ap (λ (f : List Token). f ++ h.1) h.3)) h.4

columns_sound : (ts : List Token) (cols : List ColDef) → list_of column_of stops.Comma ts ≡ Some cols → AreSeparated IsColumn (IsToken Comma) cols ts
columns_sound ts cols e =
    each_at (λ (xs : List ColDef). AreSeparated IsColumn (IsToken Comma) xs ts) _ cols (list_sound IsColumn (IsToken Comma) column_of stops.Comma column_sound comma_is ts) e

literals_sound : (ts : List Token) (vals : List Value) → list_of (literal_of number_written) stops.Comma ts ≡ Some vals → AreSeparated IsLiteral (IsToken Comma) vals ts
literals_sound ts vals e =
    each_at (λ (xs : List Value). AreSeparated IsLiteral (IsToken Comma) xs ts) _ vals (list_sound IsLiteral (IsToken Comma) (literal_of number_written) stops.Comma literal_sound comma_is ts) e

sets_sound : (ts : List Token) (sets : List RawSet) → list_of (set_of number_written) stops.Comma ts ≡ Some sets → AreSeparated IsSet (IsToken Comma) sets ts
sets_sound ts sets e =
    each_at (λ (xs : List RawSet). AreSeparated IsSet (IsToken Comma) xs ts) _ sets (list_sound IsSet (IsToken Comma) (set_of number_written) stops.Comma set_sound comma_is ts) e

taken_sound : (ts : List Token) (cols : List RawCol) → list_of col_of stops.Comma ts ≡ Some cols → AreSeparated IsFullCol (IsToken Comma) cols ts
taken_sound ts cols e =
    each_at (λ (xs : List RawCol). AreSeparated IsFullCol (IsToken Comma) xs ts) _ cols (list_sound IsFullCol (IsToken Comma) col_of stops.Comma full_sound comma_is ts) e

items_sound : (ts : List Token) (items : List RawItem) → list_of item_of stops.Comma ts ≡ Some items → AreSeparated IsItem (IsToken Comma) items ts
items_sound ts items e =
    each_at (λ (xs : List RawItem). AreSeparated IsItem (IsToken Comma) xs ts) _ items (list_sound IsItem (IsToken Comma) item_of stops.Comma item_sound comma_is ts) e

create_sound : (whole : List Token) (w : List ℕ) (ts : List Token) → whole ≡ Word w ∷ ts → is_keyword (codes "create") w ≡ true → Each (IsCommand whole) (create_of number_written ts)
unfolding create_of create_user_of create_relation_of
create_sound whole w ts e k =
    let P : Command → Type 0 = IsCommand whole in
    each_behind P (word_at ts) _ (λ word f.
    each_if P (is_keyword (codes "user") word.0) _ _ (λ u.
    each_behind P (text_at word.1) _ (λ name g. each_behind P (end_at name.1) _ (λ rest h.
    first_then (codes "create") (IsKeyword (codes "user") ▸ IsToken (Text name.0)) whole w ts e k
    (word_then (codes "user") (IsToken (Text name.0)) ts word f u
    (text_is word.1 name g ∙ ap (λ (r : List Token). Text name.0 ∷ r) (end_is name.1 rest h))))))
    (each_if P (is_keyword (codes "relation") word.0) _ _ (λ u.
    each_behind P (name_at word.1) _ (λ name g. each_behind P (inside_at name.1) _ (λ inside h.
    each_behind P (list_of column_of stops.Comma inside.0) _ (λ cols i.
    each_behind P (key_of number_written inside.1) _ (λ key j.
    let Cols = AreSeparated IsColumn (IsToken Comma) cols in
    let Body = IsToken ParenL ▸ Cols ▸ IsToken ParenR ▸ IsKeyClause key in
    first_then (codes "create") (IsKeyword (codes "relation") ▸ IsName name.0 ▸ Body) whole w ts e k
    (word_then (codes "relation") (IsName name.0 ▸ Body) ts word f u
    (name_then Body word.1 name g
    (parens_then Cols (IsKeyClause key) name.1 inside h (columns_sound inside.0 cols i)
    (each_at (λ (k : Option ℤ). IsKeyClause k inside.1) _ key (key_sound inside.1) j)))))))))
    tt))

signed_sound : (ts : List Token) → Each (λ signed. IsSigned signed.0.users signed.0.sign signed.0.rel signed.1 ts) (signed_of number_written ts)
unfolding signed_of
signed_sound ts =
    let P : Target × List Value → Type 0 = λ signed. IsSigned signed.0.users signed.0.sign signed.0.rel signed.1 ts in
    each_behind P (target_at ts) _ (λ target f.
    each_behind P (keyword_at (codes "values") target.1) _ (λ rest g.
    each_behind P (inside_of rest) _ (λ inside h.
    each_behind P (list_of (literal_of number_written) stops.Comma inside) _ (λ vals i.
    let Body = IsToken ParenL ▸ AreSeparated IsLiteral (IsToken Comma) vals ▸ IsToken ParenR in
    target_then (IsKeyword (codes "values") ▸ Body) ts target f
    (keyword_then (codes "values") Body target.1 rest g
    (inside_then (AreSeparated IsLiteral (IsToken Comma) vals) rest inside h (literals_sound inside vals i)))))))

-- what was read of these tokens is in the grammar
signed_is : (ts : List Token) (signed : Target × List Value) → signed_of number_written ts ≡ Some signed → IsSigned signed.0.users signed.0.sign signed.0.rel signed.1 ts
signed_is ts signed e =
    each_at (λ (x : Target × List Value). IsSigned x.0.users x.0.sign x.0.rel x.1 ts) _ signed (signed_sound ts) e

insert_sound : (whole : List Token) (w : List ℕ) (ts : List Token) → whole ≡ Word w ∷ ts → is_keyword (codes "insert") w ≡ true → Each (IsCommand whole) (insert_of number_written ts)
unfolding insert_of
insert_sound whole w ts e k =
    let P : Command → Type 0 = IsCommand whole in
    each_behind P (keyword_at (codes "into") ts) _ (λ into f.
    each_behind P (signed_of number_written into) _ (λ signed g.
    let Signed = IsSigned signed.0.users signed.0.sign signed.0.rel signed.1 in
    first_then (codes "insert") (IsKeyword (codes "into") ▸ Signed) whole w ts e k
    (keyword_then (codes "into") Signed ts into f (signed_is into signed g))))

delete_sound : (whole : List Token) (w : List ℕ) (ts : List Token) → whole ≡ Word w ∷ ts → is_keyword (codes "delete") w ≡ true → Each (IsCommand whole) (delete_of number_written ts)
unfolding delete_of
delete_sound whole w ts e k =
    let P : Command → Type 0 = IsCommand whole in
    each_behind P (keyword_at (codes "from") ts) _ (λ from f.
    each_behind P (target_at from) _ (λ target g.
    each_behind P (end_at (cut stops.Where target.1).0) _ (λ rest h.
    each_behind P (conds_of (test_of number_written) (cut stops.Where target.1).1) _ (λ conds i.
    let After = AreConds IsBareCol conds in
    let Target_is = IsTarget target.0.users target.0.sign target.0.rel After in
    first_then (codes "delete") (IsKeyword (codes "from") ▸ Target_is) whole w ts e k
    (keyword_then (codes "from") Target_is ts from f
    (target_then After from target g
    (nothing_then After target.1
    (conds_then IsNothing IsBareCol (test_of number_written) test_sound target.1 conds (cut stops.Where target.1).1 refl i (end_is _ rest h)))))))))

update_sound : (whole : List Token) (w : List ℕ) (ts : List Token) → whole ≡ Word w ∷ ts → is_keyword (codes "update") w ≡ true → Each (IsCommand whole) (update_of number_written ts)
unfolding update_of
update_sound whole w ts e k =
    let P : Command → Type 0 = IsCommand whole in
    each_behind P (target_at ts) _ (λ target f.
    each_behind P (keyword_at (codes "set") target.1) _ (λ rest g.
    each_behind P (list_of (set_of number_written) stops.Comma (cut stops.Where rest).0) _ (λ sets h.
    each_behind P (conds_of (test_of number_written) (cut stops.Where rest).1) _ (λ conds i.
    let Body = AreSeparated IsSet (IsToken Comma) sets ▸ AreConds IsBareCol conds in
    let After = IsKeyword (codes "set") ▸ Body in
    first_then (codes "update") (IsTarget target.0.users target.0.sign target.0.rel After) whole w ts e k
    (target_then After ts target f
    (keyword_then (codes "set") Body target.1 rest g
    (conds_then (AreSeparated IsSet (IsToken Comma) sets) IsBareCol (test_of number_written) test_sound rest conds (cut stops.Where rest).1 refl i (sets_sound (cut stops.Where rest).0 sets h))))))))

query_sound : (whole : List Token) (w : List ℕ) (ts : List Token) → whole ≡ Word w ∷ ts → is_keyword (codes "select") w ≡ true → Each (λ q. IsQuery q whole) (query_of number_written ts)
unfolding query_of
query_sound whole w ts e k =
    let P : RawQuery → Type 0 = λ q. IsQuery q whole in
    each_behind P (cut stops.From ts).1 _ (λ rest f.
    each_behind P (list_of col_of stops.Comma (cut stops.From ts).0) _ (λ take g.
    each_behind P (list_of item_of stops.Comma (cut stops.Where rest).0) _ (λ items h.
    each_behind P (conds_of (cond_of number_written) (cut stops.Where rest).1) _ (λ conds i.
    let Take = AreSeparated IsFullCol (IsToken Comma) take in
    let Items = AreSeparated IsItem (IsToken Comma) items in
    let Conds = AreConds IsFullCol conds in
    first_then (codes "select") (Take ▸ IsKeyword (codes "from") ▸ Items ▸ Conds) whole w ts e k
    (cut_then Take (IsKeyword (codes "from")) (Items ▸ Conds) stops.From from_is ts rest f (taken_sound (cut stops.From ts).0 take g)
    (conds_then Items IsFullCol (cond_of number_written) cond_sound rest conds (cut stops.Where rest).1 refl i (items_sound (cut stops.Where rest).0 items h)))))))

explain_sound : (whole : List Token) (w : List ℕ) (ts : List Token) → whole ≡ Word w ∷ ts → is_keyword (codes "explain") w ≡ true → Each (IsCommand whole) (explain_of number_written ts)
unfolding explain_of
explain_sound whole w ts e k =
    let P : Command → Type 0 = IsCommand whole in
    each_behind P (keyword_at (codes "select") ts) _ (λ rest f.
    let h = keyword_is (codes "select") ts rest f in
    each_map P Explain (query_of number_written rest) (λ q g.
    first_then (codes "explain") (IsQuery q) whole w ts e k
    (each_at (λ (x : RawQuery). IsQuery x ts) _ q (query_sound ts h.0 rest h.1 h.2) g)))

show_sound : (whole : List Token) (w : List ℕ) (ts : List Token) → whole ≡ Word w ∷ ts → is_keyword (codes "show") w ≡ true → Each (IsCommand whole) (show_of ts)
unfolding show_of show_world_of
show_sound whole w ts e k =
    let P : Command → Type 0 = IsCommand whole in
    each_behind P (word_at ts) _ (λ word f.
    each_if P (is_keyword (codes "world") word.0) _ _ (λ u.
    each_behind P (end_at (beliefs_at word.1).1) _ (λ rest g.
    let users = (beliefs_at word.1).0 in
    let h = beliefs_then IsNothing word.1 (end_is _ rest g) in
    let whole_users : word.1 ≡ h.0 = h.2 ∙ (ap (λ (r : List Token). h.0 ++ r) h.4 ∙ append-nil h.0) in
    first_then (codes "show") (IsKeyword (codes "world") ▸ AreRepeated IsBelief users) whole w ts e k
    (word_then (codes "world") (AreRepeated IsBelief users) ts word f u (subst (AreRepeated IsBelief users) (sym whole_users) h.3))))
    (each_if P (is_keyword (codes "tables") word.0) _ _ (λ u.
    each_map P (λ _. ShowTables) (end_at word.1) (λ rest g.
    first_then (codes "show") (IsKeyword (codes "tables")) whole w ts e k
    (word.0, word_is ts word f ∙ ap (λ (r : List Token). Word word.0 ∷ r) (end_is word.1 rest g), u)))
    tt))

why_sound : (whole : List Token) (w : List ℕ) (ts : List Token) → whole ≡ Word w ∷ ts → is_keyword (codes "why") w ≡ true → Each (IsCommand whole) (why_of number_written ts)
unfolding why_of
why_sound whole w ts e k =
    let P : Command → Type 0 = IsCommand whole in
    each_behind P (signed_of number_written ts) _ (λ signed f.
    first_then (codes "why") (IsSigned signed.0.users signed.0.sign signed.0.rel signed.1) whole w ts e k (signed_is ts signed f))

drop_sound : (whole : List Token) (w : List ℕ) (ts : List Token) → whole ≡ Word w ∷ ts → is_keyword (codes "drop") w ≡ true → Each (IsCommand whole) (drop_of ts)
unfolding drop_of
drop_sound whole w ts e k =
    let P : Command → Type 0 = IsCommand whole in
    each_behind P (keyword_at (codes "user") ts) _ (λ rest f.
    each_behind P (text_at rest) _ (λ name g. each_behind P (end_at name.1) _ (λ after i.
    first_then (codes "drop") (IsKeyword (codes "user") ▸ IsToken (Text name.0)) whole w ts e k
    (keyword_then (codes "user") (IsToken (Text name.0)) ts rest f
    (text_is rest name g ∙ ap (λ (r : List Token). Text name.0 ∷ r) (end_is name.1 after i))))))

one_word_sound : (whole : List Token) (w : List ℕ) (ts : List Token) → whole ≡ Word w ∷ ts → Each (IsCommand whole) (one_word_of w ts)
unfolding one_word_of
one_word_sound whole w ts e =
    let P : Command → Type 0 = IsCommand whole in
    each_if P (is_keyword (codes "undo") w) _ _ (λ k.
    each_map P (λ _. Undo) (end_at ts) (λ rest f. (w, e ∙ ap (λ (r : List Token). Word w ∷ r) (end_is ts rest f), k)))
    (each_if P (is_keyword (codes "redo") w) _ _ (λ k.
    each_map P (λ _. Redo) (end_at ts) (λ rest f. (w, e ∙ ap (λ (r : List Token). Word w ∷ r) (end_is ts rest f), k)))
    tt)

after_command : (whole : List Token) (w : List ℕ) (ts : List Token) → whole ≡ Word w ∷ ts → Each (IsCommand whole) (command_after number_written w ts)
unfolding command_after
after_command whole w ts e =
    let P : Command → Type 0 = IsCommand whole in
    each_if P (is_keyword (codes "create") w) _ _ (create_sound whole w ts e)
    (each_if P (is_keyword (codes "insert") w) _ _ (insert_sound whole w ts e)
    (each_if P (is_keyword (codes "delete") w) _ _ (delete_sound whole w ts e)
    (each_if P (is_keyword (codes "update") w) _ _ (update_sound whole w ts e)
    (each_if P (is_keyword (codes "select") w) _ _ (λ k. each_map P Select (query_of number_written ts) (λ q f. each_at (λ (x : RawQuery). IsQuery x whole) _ q (query_sound whole w ts e k) f))
    (each_if P (is_keyword (codes "explain") w) _ _ (explain_sound whole w ts e)
    (each_if P (is_keyword (codes "show") w) _ _ (show_sound whole w ts e)
    (each_if P (is_keyword (codes "why") w) _ _ (why_sound whole w ts e)
    (each_if P (is_keyword (codes "drop") w) _ _ (drop_sound whole w ts e) (one_word_sound whole w ts e)))))))))

pub command_sound : (ts : List Token) (c : Command) → command_of ts ≡ Some c → IsCommand ts c
unfolding command_of command_by
command_sound ts c e =
    let P : Command → Type 0 = IsCommand ts in
    each_at P _ c (each_behind P (word_at ts) _ (λ word f. after_command ts word.0 word.1 (word_is ts word f))) e
