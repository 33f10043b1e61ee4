-- What a reading with numbers of i64 alone says of the reading with any number, definition by definition.
use Rattle.std.proofs.Common.{◌≡◌, ℕ, ℤ, pos, Bool, true, false, cond, List, [], ◌∷◌, Option, Some, None, refl}
use Rattle.std.specs.Prelude.{codes}
use Rattle.std.specs.List.{list_all}
use Rattle.std.specs.Str.Parse.{signed_digits_value}
use Rattle.bdb_base.specs.declared.kinds.Value.{Value}
use Rattle.bdb_base.specs.declared.kinds.Value.TheVariants as values
use Rattle.bdb_base.specs.declared.kinds.Cmp.{Cmp}
use Rattle.bdb_base.specs.declared.kinds.ColDef.{ColDef}
use Rattle.bdb_lex.specs.declared.token.Token.{Token}
use Rattle.bdb_lex.specs.declared.token.Token.TheVariants.{Text, Num}
use Rattle.bdb_syntax.specs.declared.command.RawCol.{RawCol}
use Rattle.bdb_syntax.specs.declared.command.RawSide.{RawSide}
use Rattle.bdb_syntax.specs.declared.command.RawSide.TheVariants as sides
use Rattle.bdb_syntax.specs.declared.command.RawCond.{RawCond}
use Rattle.bdb_syntax.specs.declared.command.RawSet.{RawSet}
use Rattle.bdb_syntax.specs.declared.command.RawItem.{RawItem}
use Rattle.bdb_parse.specs.declared.target.Target.{Target}
use Rattle.bdb_syntax.specs.declared.command.RawQuery.{RawQuery}
use Rattle.bdb_syntax.specs.declared.command.Command.TheVariants.{CreateUser, DropUser, CreateRelation, Insert, Delete, Update, Select, Explain, ShowWorld, Why, ShowTables, Undo, Redo}
use Rattle.bdb_syntax.specs.Keywords.{is_keyword}
use Rattle.bdb_parse.specs.declared.stop.Stop.{Stop}
use Rattle.bdb_parse.specs.declared.stop.Stop.TheVariants as stops
use Rattle.bdb_parse.specs.declared.wide.Wide.TheVariants.{Refused, Zero}
use Rattle.bdb_parse.specs.Numbers.{number_written, is_number, is_i64}
use Rattle.bdb_parse.specs.Gives.{number_in, narrow}
use Rattle.bdb_parse.specs.Fits.{value_fits, side_fits, cond_fits, set_fits, query_fits, key_fits, fits}
use Rattle.bdb_parse.specs.Stops.{cut, parts}
use Rattle.bdb_parse.specs.Reading.{◌>>=◌, end_at, word_at, text_at, equals_at, cmp_at, keyword_at, name_at, literal_of, set_of, bare, bare_of, col_at, col_of, begins_with_word, side_of, test_of, cond_of, all_of, list_of, conds_of, inside_at, inside_of, num_of, key_of, target_at, column_of, item_of, create_user_of, create_relation_of, create_of, signed_of, insert_of, delete_of, update_of, query_of, explain_of, show_world_of, show_of, why_of, drop_of, one_word_of, command_after, command_by, command_of, beliefs_at}
use Rattle.bdb_parse.proofs.Agree.{Agrees, neither, fitting, wide, agrees_made, agrees_behind, agrees_cond, agrees_map, agrees_last, agrees_two}

narrow_agrees : (n : ℤ) (b : Bool) → is_i64 n ≡ b → Agrees is_i64 (cond b (Some n) None) (cond b (Some n) (Some (pos 0))) (Some n)
narrow_agrees n true e = fitting n n e
narrow_agrees n false e = wide n (pos 0) e

number_agrees : (b : Bool) (n : ℤ) → Agrees is_i64 (cond b (Some n) None >>= narrow Refused) (cond b (Some n) None >>= narrow Zero) (cond b (Some n) None)
number_agrees true n = narrow_agrees n (is_i64 n) refl
number_agrees false n = neither

pub literal_agrees : (ts : List Token) → Agrees value_fits (literal_of (number_in Refused) ts) (literal_of (number_in Zero) ts) (literal_of number_written ts)
literal_agrees (Text t ∷ []) = fitting (values.Text t) (values.Text t) refl
literal_agrees (Num s ∷ []) = agrees_map is_i64 value_fits values.Int (λ n. refl) (number_agrees (is_number s) (signed_digits_value 10 s))
literal_agrees _ = neither

num_agrees : (ts : List Token) → Agrees is_i64 (num_of (number_in Refused) ts) (num_of (number_in Zero) ts) (num_of number_written ts)
num_agrees (Num s ∷ []) = number_agrees (is_number s) (signed_digits_value 10 s)
num_agrees _ = neither

key_agrees : (ts : List Token) → Agrees key_fits (key_of (number_in Refused) ts) (key_of (number_in Zero) ts) (key_of number_written ts)
unfolding key_of
key_agrees [] = fitting None None refl
key_agrees (t ∷ ts) =
    agrees_behind key_fits (keyword_at (codes "key") (t ∷ ts)) (λ (rest : List Token).
    let made : ℤ → Option ℤ = λ n. Some n in
    agrees_map is_i64 key_fits made (λ n. refl) (num_agrees rest))

pub set_agrees : (ts : List Token) → Agrees set_fits (set_of (number_in Refused) ts) (set_of (number_in Zero) ts) (set_of number_written ts)
unfolding set_of
set_agrees ts =
    agrees_behind set_fits (name_at ts) (λ (col : List ℕ × List Token).
    agrees_behind set_fits (equals_at col.1) (λ (rest : List Token).
    let made : Value → RawSet = λ v. record { col = col.0; to = v } in
    agrees_last value_fits set_fits made (λ v. refl) (literal_agrees rest)))

pub side_agrees : (column : List Token → Option RawCol) (ts : List Token) → Agrees side_fits (side_of column (number_in Refused) ts) (side_of column (number_in Zero) ts) (side_of column number_written ts)
unfolding side_of
side_agrees column ts =
    agrees_cond side_fits (begins_with_word ts)
    (agrees_made side_fits sides.Col (column ts) (λ c. refl))
    (agrees_map value_fits side_fits sides.Lit (λ v. refl) (literal_agrees ts))

pub test_agrees : (ts : List Token) → Agrees cond_fits (test_of (number_in Refused) ts) (test_of (number_in Zero) ts) (test_of number_written ts)
unfolding test_of
test_agrees ts =
    agrees_behind cond_fits (name_at ts) (λ (left : List ℕ × List Token).
    agrees_behind cond_fits (cmp_at left.1) (λ (cmp : Cmp × List Token).
    let made : RawSide → RawCond = λ right. record { left = bare left.0; cmp = cmp.0; right = right } in
    agrees_last side_fits cond_fits made (λ r. refl) (side_agrees bare_of cmp.1)))

pub cond_agrees : (ts : List Token) → Agrees cond_fits (cond_of (number_in Refused) ts) (cond_of (number_in Zero) ts) (cond_of number_written ts)
unfolding cond_of
cond_agrees ts =
    agrees_behind cond_fits (col_at ts) (λ (left : RawCol × List Token).
    agrees_behind cond_fits (cmp_at left.1) (λ (cmp : Cmp × List Token).
    let made : RawSide → RawCond = λ right. record { left = left.0; cmp = cmp.0; right = right } in
    agrees_last side_fits cond_fits made (λ r. refl) (side_agrees col_of cmp.1)))

all_agrees : {X : Type 0} (f : X → Bool) (s l a : List Token → Option X) → ((ts : List Token) → Agrees f (s ts) (l ts) (a ts)) → (ps : List (List Token)) → Agrees (list_all f) (all_of s ps) (all_of l ps) (all_of a ps)
all_agrees f s l a h [] = fitting [] [] refl
all_agrees f s l a h (p ∷ ps) =
    agrees_two f (list_all f) (list_all f) (λ x xs. x ∷ xs) (λ x xs. refl) (h p) (all_agrees f s l a h ps)

pub list_agrees : {X : Type 0} (f : X → Bool) (s l a : List Token → Option X) → ((ts : List Token) → Agrees f (s ts) (l ts) (a ts)) → (stop : Stop) (ts : List Token) → Agrees (list_all f) (list_of s stop ts) (list_of l stop ts) (list_of a stop ts)
unfolding list_of
list_agrees f s l a h stop ts = all_agrees f s l a h (parts stop ts)

pub conds_agrees : (s l a : List Token → Option RawCond) → ((ts : List Token) → Agrees cond_fits (s ts) (l ts) (a ts)) → (o : Option (List Token)) → Agrees (list_all cond_fits) (conds_of s o) (conds_of l o) (conds_of a o)
conds_agrees s l a h None = fitting [] [] refl
conds_agrees s l a h (Some ts) = list_agrees cond_fits s l a h stops.And ts

create_user_agrees : (ts : List Token) → Agrees fits (create_user_of ts) (create_user_of ts) (create_user_of ts)
unfolding create_user_of
create_user_agrees ts =
    agrees_behind fits (text_at ts) (λ (name : List ℕ × List Token).
    agrees_behind fits (end_at name.1) (λ (rest : List Token). fitting (CreateUser name.0) (CreateUser name.0) refl))

create_relation_agrees : (ts : List Token) → Agrees fits (create_relation_of (number_in Refused) ts) (create_relation_of (number_in Zero) ts) (create_relation_of number_written ts)
unfolding create_relation_of
create_relation_agrees ts =
    agrees_behind fits (name_at ts) (λ (name : List ℕ × List Token).
    agrees_behind fits (inside_at name.1) (λ (inside : List Token × List Token).
    agrees_behind fits (list_of column_of stops.Comma inside.0) (λ (cols : List ColDef).
    agrees_last key_fits fits (λ key. CreateRelation name.0 cols key) (λ key. refl) (key_agrees inside.1))))

create_agrees : (ts : List Token) → Agrees fits (create_of (number_in Refused) ts) (create_of (number_in Zero) ts) (create_of number_written ts)
unfolding create_of
create_agrees ts =
    agrees_behind fits (word_at ts) (λ (word : List ℕ × List Token).
    agrees_cond fits (is_keyword (codes "user") word.0) (create_user_agrees word.1)
    (agrees_cond fits (is_keyword (codes "relation") word.0) (create_relation_agrees word.1) neither))

-- the values behind a path, a sign and a relation are in range
abbrev signed_fits : Target × List Value → Bool
signed_fits signed = list_all value_fits signed.1

signed_agrees : (ts : List Token) → Agrees signed_fits (signed_of (number_in Refused) ts) (signed_of (number_in Zero) ts) (signed_of number_written ts)
unfolding signed_of
signed_agrees ts =
    agrees_behind signed_fits (target_at ts) (λ (target : Target × List Token).
    agrees_behind signed_fits (keyword_at (codes "values") target.1) (λ (rest : List Token).
    agrees_behind signed_fits (inside_of rest) (λ (inside : List Token).
    let made : List Value → Target × List Value = λ vals. (target.0, vals) in
    agrees_last (list_all value_fits) signed_fits made (λ vals. refl) (list_agrees value_fits _ _ _ literal_agrees stops.Comma inside))))

insert_agrees : (ts : List Token) → Agrees fits (insert_of (number_in Refused) ts) (insert_of (number_in Zero) ts) (insert_of number_written ts)
unfolding insert_of
insert_agrees ts =
    agrees_behind fits (keyword_at (codes "into") ts) (λ (into : List Token).
    agrees_last signed_fits fits (λ signed. Insert signed.0.users signed.0.sign signed.0.rel signed.1) (λ signed. refl) (signed_agrees into))

delete_agrees : (ts : List Token) → Agrees fits (delete_of (number_in Refused) ts) (delete_of (number_in Zero) ts) (delete_of number_written ts)
unfolding delete_of
delete_agrees ts =
    agrees_behind fits (keyword_at (codes "from") ts) (λ (from : List Token).
    agrees_behind fits (target_at from) (λ (target : Target × List Token).
    agrees_behind fits (end_at (cut stops.Where target.1).0) (λ (rest : List Token).
    agrees_last (list_all cond_fits) fits (λ conds. Delete target.0.users target.0.sign target.0.rel conds) (λ conds. refl) (conds_agrees _ _ _ test_agrees (cut stops.Where target.1).1))))

update_agrees : (ts : List Token) → Agrees fits (update_of (number_in Refused) ts) (update_of (number_in Zero) ts) (update_of number_written ts)
unfolding update_of
update_agrees ts =
    agrees_behind fits (target_at ts) (λ (target : Target × List Token).
    agrees_behind fits (keyword_at (codes "set") target.1) (λ (rest : List Token).
    agrees_two (list_all set_fits) (list_all cond_fits) fits (λ sets conds. Update target.0.users target.0.sign target.0.rel sets conds) (λ sets conds. refl)
    (list_agrees set_fits _ _ _ set_agrees stops.Comma (cut stops.Where rest).0)
    (conds_agrees _ _ _ test_agrees (cut stops.Where rest).1)))

query_agrees : (ts : List Token) → Agrees query_fits (query_of (number_in Refused) ts) (query_of (number_in Zero) ts) (query_of number_written ts)
unfolding query_of
query_agrees ts =
    agrees_behind query_fits (cut stops.From ts).1 (λ (rest : List Token).
    agrees_behind query_fits (list_of col_of stops.Comma (cut stops.From ts).0) (λ (take : List RawCol).
    agrees_behind query_fits (list_of item_of stops.Comma (cut stops.Where rest).0) (λ (items : List RawItem).
    let made : List RawCond → RawQuery = λ conds. record { take = take; items = items; conds = conds } in
    agrees_last (list_all cond_fits) query_fits made (λ conds. refl) (conds_agrees _ _ _ cond_agrees (cut stops.Where rest).1))))

explain_agrees : (ts : List Token) → Agrees fits (explain_of (number_in Refused) ts) (explain_of (number_in Zero) ts) (explain_of number_written ts)
unfolding explain_of
explain_agrees ts =
    agrees_behind fits (keyword_at (codes "select") ts) (λ (rest : List Token). agrees_map query_fits fits Explain (λ q. refl) (query_agrees rest))

show_world_agrees : (ts : List Token) → Agrees fits (show_world_of ts) (show_world_of ts) (show_world_of ts)
unfolding show_world_of
show_world_agrees ts =
    agrees_behind fits (end_at (beliefs_at ts).1) (λ (rest : List Token). fitting (ShowWorld (beliefs_at ts).0) (ShowWorld (beliefs_at ts).0) refl)

show_agrees : (ts : List Token) → Agrees fits (show_of ts) (show_of ts) (show_of ts)
unfolding show_of
show_agrees ts =
    agrees_behind fits (word_at ts) (λ (word : List ℕ × List Token).
    agrees_cond fits (is_keyword (codes "world") word.0) (show_world_agrees word.1)
    (agrees_cond fits (is_keyword (codes "tables") word.0) (agrees_made fits (λ _. ShowTables) (end_at word.1) (λ _. refl)) neither))

why_agrees : (ts : List Token) → Agrees fits (why_of (number_in Refused) ts) (why_of (number_in Zero) ts) (why_of number_written ts)
unfolding why_of
why_agrees ts =
    agrees_last signed_fits fits (λ signed. Why signed.0.users signed.0.sign signed.0.rel signed.1) (λ signed. refl) (signed_agrees ts)

drop_agrees : (ts : List Token) → Agrees fits (drop_of ts) (drop_of ts) (drop_of ts)
unfolding drop_of
drop_agrees ts =
    agrees_behind fits (keyword_at (codes "user") ts) (λ (rest : List Token).
    agrees_behind fits (text_at rest) (λ (name : List ℕ × List Token).
    agrees_behind fits (end_at name.1) (λ (after : List Token). fitting (DropUser name.0) (DropUser name.0) refl)))

one_word_agrees : (word : List ℕ) (ts : List Token) → Agrees fits (one_word_of word ts) (one_word_of word ts) (one_word_of word ts)
unfolding one_word_of
one_word_agrees word ts =
    agrees_cond fits (is_keyword (codes "undo") word) (agrees_made fits (λ _. Undo) (end_at ts) (λ _. refl))
    (agrees_cond fits (is_keyword (codes "redo") word) (agrees_made fits (λ _. Redo) (end_at ts) (λ _. refl)) neither)

after_agrees : (word : List ℕ) (ts : List Token) → Agrees fits (command_after (number_in Refused) word ts) (command_after (number_in Zero) word ts) (command_after number_written word ts)
unfolding command_after
after_agrees word ts =
    agrees_cond fits (is_keyword (codes "create") word) (create_agrees ts)
    (agrees_cond fits (is_keyword (codes "insert") word) (insert_agrees ts)
    (agrees_cond fits (is_keyword (codes "delete") word) (delete_agrees ts)
    (agrees_cond fits (is_keyword (codes "update") word) (update_agrees ts)
    (agrees_cond fits (is_keyword (codes "select") word) (agrees_map query_fits fits Select (λ q. refl) (query_agrees ts))
    (agrees_cond fits (is_keyword (codes "explain") word) (explain_agrees ts)
    (agrees_cond fits (is_keyword (codes "show") word) (show_agrees ts)
    (agrees_cond fits (is_keyword (codes "why") word) (why_agrees ts)
    (agrees_cond fits (is_keyword (codes "drop") word) (drop_agrees ts) (one_word_agrees word ts)))))))))

-- the three readings of a command
pub command_agrees : (ts : List Token) → Agrees fits (command_by (number_in Refused) ts) (command_by (number_in Zero) ts) (command_of ts)
unfolding command_by command_of
command_agrees ts =
    agrees_behind fits (word_at ts) (λ (word : List ℕ × List Token). after_agrees word.0 word.1)
