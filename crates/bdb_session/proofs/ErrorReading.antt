-- What a piece says is printable, and never refused because memory runs out.
use Rattle.std.proofs.Common.{◌≡◌, ℕ, ℤ, Bool, true, false, not, ◌&&◌, ◌||◌, ◌==◌, nat_eq, nat_le, nat_lt, is_some, List, [], ◌∷◌, ◌++◌, length, map, Option, Some, None, refl, arith, unwrap_or}
use Rattle.std.specs.List.{AllByRecursion, list_all, list_any}
use Rattle.std.specs.Option.{option_and_then, option_map}
use Rattle.std.specs.Prelude.{find}
use Rattle.std.proofs.lemmas.Bool.{false≢true, and_from, and_parts, cond_both}
use Rattle.std.proofs.lemmas.Bool.Decides.{nat_tests}
use Rattle.bdb_base.specs.declared.kinds.Catalog.{Catalog}
use Rattle.bdb_base.specs.declared.kinds.ColDef.{ColDef}
use Rattle.bdb_base.specs.declared.kinds.Item.TheVariants as item
use Rattle.bdb_base.specs.declared.kinds.Query.{Query}
use Rattle.bdb_base.specs.declared.kinds.RelDef.{RelDef}
use Rattle.bdb_base.specs.declared.kinds.UserSlot.{UserSlot}
use Rattle.bdb_base.specs.declared.kinds.Value.{Value}
use Rattle.bdb_base.specs.declared.kinds.Value.TheVariants.{Int, Text}
use Rattle.bdb_base.specs.Bases.{users_name}
use Rattle.bdb_base.specs.Letters.{is_letter, is_word_byte}
use Rattle.bdb_base.specs.Limits.{deepest_query, longest_word, most_columns, most_items, most_select_columns}
use Rattle.bdb_base.specs.Same.{same_text}
use Rattle.bdb_base.specs.Safety.{one_kind}
use Rattle.bdb_base.proofs.ListLemmas.{list_all_weaker}
use Rattle.bdb_bind.specs.declared.bound.BindError.{BindError}
use Rattle.bdb_bind.specs.declared.bound.BindError.TheVariants as error
use Rattle.bdb_bind.specs.declared.bound.Bound.{Bound}
use Rattle.bdb_bind.specs.declared.bound.Bound.TheVariants as bound
use Rattle.bdb_bind.specs.Binding.{bound_of}
use Rattle.bdb_bind.specs.Firsts.{first_in, or_next, refused_if}
use Rattle.bdb_bind.specs.Lines.{alias_line, alias_twice_line, arity_line, change_column, change_kind, column_line, cond_kinds, deep_line, first_repeated, fits_cond, fits_set, has_repeat, is_key_length, items_line, key_line, key_refused, kind_line, misfit, missing_column, path_repeats, path_too_deep, relation_line, repeat_line, set_kinds, taken_line, text_line, too_many_columns, unknown_relation, unknown_user, user_line, values_arity, values_kind}
use Rattle.bdb_bind.specs.Lookup.{has_column, is_user_name, relation_number}
use Rattle.bdb_bind.specs.Parts.{change_columns, cond_columns, depth_limit, is_long, new_columns, new_key, path_names, query_of, relation_name, some_text, tuple_values}
use Rattle.bdb_bind.specs.QueryBinding.{bound_query, query_cond, query_item, query_side, query_who}
use Rattle.bdb_bind.specs.QueryLines.{alias_twice, column_alias, column_missing, column_not_uid, cond_kind, in_columns, in_cond, in_later_columns, in_path, in_side, in_who, item_relation, item_user, kind_named, kind_of_side, query_alias, query_alias_twice, query_column, query_deep, query_items, query_kind, query_relation, query_repeat, query_user, repeats_name, who_user}
use Rattle.bdb_bind.specs.Refusal.{bound_unsafe, first_refusal, names_refused, refusal_of, unsafe_at, unsafe_line}
use Rattle.bdb_bind.specs.Safe.{first_unbound}
use Rattle.bdb_bind.specs.Scope.{columns_named, is_uid, is_users, item_place}
use Rattle.bdb_lex.specs.Spans.{lacks}
use Rattle.bdb_lex.specs.Tokens.{tokens_of}
use Rattle.bdb_lex.specs.declared.token.Token.{Token}
use Rattle.bdb_lex.proofs.SpellingLemmas.{tokens_are_formed}
use Rattle.bdb_parse.specs.Fits.{fits}
use Rattle.bdb_parse.specs.Numbers.{number_written as number_spelled}
use Rattle.bdb_parse.specs.Reading.{command_of}
use Rattle.bdb_parse.specs.Spelled.{AreWellSpelled}
use Rattle.bdb_parse.proofs.FilledLemmas.{command_filled_of}
use Rattle.bdb_parse.proofs.PrintableLemmas.{parts_ok}
use Rattle.bdb_parse.proofs.SoundCommands.{command_sound}
use Rattle.bdb_render.specs.declared.refusal.Refusal.{Refusal}
use Rattle.bdb_render.specs.declared.refusal.Refusal.TheVariants as refusal
use Rattle.bdb_syntax.specs.declared.command.Command.{Command}
use Rattle.bdb_syntax.specs.declared.command.Command.TheVariants.{CreateUser, CreateRelation, Insert, Delete, Update, Why}
use Rattle.bdb_syntax.specs.declared.command.RawCol.{RawCol}
use Rattle.bdb_syntax.specs.declared.command.RawCond.{RawCond}
use Rattle.bdb_syntax.specs.declared.command.RawItem.{RawItem}
use Rattle.bdb_syntax.specs.declared.command.RawQuery.{RawQuery}
use Rattle.bdb_syntax.specs.declared.command.RawSet.{RawSet}
use Rattle.bdb_syntax.specs.declared.command.RawSide.{RawSide}
use Rattle.bdb_syntax.specs.declared.command.RawSide.TheVariants as sides
use Rattle.bdb_syntax.specs.declared.command.RawWho.{RawWho}
use Rattle.bdb_syntax.specs.declared.command.RawWho.TheVariants as who
use Rattle.bdb_syntax.specs.Printable.{IsFullColumn, IsPrintable, IsPrintableCond, IsPrintableItem, IsPrintableQuery, IsPrintableSide, IsPrintableValue, is_short_word}
use Rattle.bdb_session.proofs.AllowedLemmas.{well_spelled}
use Rattle.bdb_session.proofs.ErrorBases.{if_there, visible_is_other}
use Rattle.bdb_session.proofs.ErrorPlans.{has_flat_alias, is_flat_cond, is_flat_operand}
use Rattle.bdb_session.proofs.ErrorTexts.{IsFlat, is_flat_value}
use Rattle.bdb_session.specs.Machine.{refusal_from}
use Rattle.bdb_session.specs.Reading.{reading_of, reading_of_command, reading_of_tokens}
use Rattle.bdb_session.specs.declared.reading.Reading.{Reading}
use Rattle.bdb_session.specs.declared.reading.Reading.TheVariants as reading

-- ---- what is read is printable

-- what is said is printable
abbrev pub SaysPrintable : Reading → Type 0
SaysPrintable reading.Nothing = Unit {0}
SaysPrintable (reading.Says c) = IsPrintable c
SaysPrintable (reading.Refused r) = Unit {0}

read_printable : (ts : List Token) (c : Command) → AreWellSpelled ts → command_of ts ≡ Some c → IsPrintable c
unfolding command_of
read_printable ts c w e = record { parts = parts_ok c ts (command_sound ts c e) w; filled = command_filled_of number_spelled ts c e }

by_command : (ts : List Token) → AreWellSpelled ts → (o : Option Command) → command_of ts ≡ o → SaysPrintable (reading_of_command o)
by_command ts w None e = tt
by_command ts w (Some c) e = cond_both (fits c) (reading.Says c) (reading.Refused refusal.Number) SaysPrintable (λ f. read_printable ts c w e) (λ f. tt)

by_tokens : (bytes : List ℕ) (o : Option (List Token)) → tokens_of bytes ≡ o → SaysPrintable (reading_of_tokens o)
by_tokens bytes None e = tt
by_tokens bytes (Some []) e = tt
by_tokens bytes (Some (t ∷ ts)) e = by_command (t ∷ ts) (well_spelled (t ∷ ts) (tokens_are_formed bytes (t ∷ ts) e)) (command_of (t ∷ ts)) refl

pub reading_printable : (bytes : List ℕ) → SaysPrintable (reading_of bytes)
reading_printable bytes = by_tokens bytes (tokens_of bytes) refl

-- ---- the aliases and literals of a query that is read have no line feed

word_byte_other : (c : ℕ) → is_word_byte c ≡ true → not (nat_eq c 10) ≡ true
word_byte_other c h = grind (arith, nat_tests)

letter_other : (c : ℕ) → is_letter c ≡ true → not (nat_eq c 10) ≡ true
letter_other c h = grind (arith, nat_tests)

word_flat : (w : List ℕ) → is_short_word w ≡ true → IsFlat w
word_flat [] h = refl
word_flat (c ∷ cs) h =
    let k = and_parts (is_letter c) (list_all is_word_byte cs && nat_le (length (c ∷ cs)) longest_word) h in
    let m = and_parts (list_all is_word_byte cs) (nat_le (length (c ∷ cs)) longest_word) k.1 in
    and_from (not (nat_eq c 10)) (lacks 10 cs) (letter_other c k.0) (list_all_weaker is_word_byte (λ c. not (nat_eq c 10)) word_byte_other cs m.0)

literal_flat : (v : Value) → IsPrintableValue v → is_flat_value v ≡ true
literal_flat (Int n) h = refl
literal_flat (Text t) h = list_all_weaker (λ c. nat_le 32 c) (λ c. not (nat_eq c 10)) visible_is_other t h.1

side_flat : (rels : List RelDef) (items : List RawItem) (s : RawSide) → IsPrintableSide IsFullColumn s → is_flat_operand (query_side rels items s) ≡ true
side_flat rels items (sides.Col c) h = refl
side_flat rels items (sides.Lit v) h = literal_flat v h

conds_flat : (rels : List RelDef) (items : List RawItem) (conds : List RawCond) → AllByRecursion (IsPrintableCond IsFullColumn) conds → list_all is_flat_cond (map (query_cond rels items) conds) ≡ true
conds_flat rels items [] h = refl
conds_flat rels items (c ∷ cs) h =
    and_from (is_flat_cond (query_cond rels items c)) (list_all is_flat_cond (map (query_cond rels items) cs)) (side_flat rels items c.right h.0.1) (conds_flat rels items cs h.1)

item_flat : (catalog : Catalog) (items : List RawItem) (i : RawItem) → IsPrintableItem i → has_flat_alias (query_item catalog items i) ≡ true
item_flat catalog items i h =
    cond_both (is_users i) (item.Users i.alias) (item.Rel i.alias (unwrap_or (relation_number catalog.rels i.rel) 0) i.sign (map (query_who catalog.users items) i.path))
    (λ x. has_flat_alias x ≡ true) (λ e. word_flat i.alias h.2.0) (λ e. word_flat i.alias h.2.0)

items_flat : (catalog : Catalog) (all items : List RawItem) → AllByRecursion IsPrintableItem items → list_all has_flat_alias (map (query_item catalog all) items) ≡ true
items_flat catalog all [] h = refl
items_flat catalog all (i ∷ is) h =
    and_from (has_flat_alias (query_item catalog all i)) (list_all has_flat_alias (map (query_item catalog all) is)) (item_flat catalog all i h.0) (items_flat catalog all is h.1)

-- a query's aliases and literals have no line feed
pub record IsFlatQuery (q : Query) : Type 0 where
  pub items : list_all has_flat_alias q.items ≡ true
  pub conds : list_all is_flat_cond q.conds ≡ true

pub query_flat : (catalog : Catalog) (q : RawQuery) → IsPrintableQuery q → IsFlatQuery (bound_query catalog q)
unfolding bound_query
query_flat catalog q h = record { items = items_flat catalog q.items q.items h.1; conds = conds_flat catalog.rels q.items q.conds h.2 }

-- ---- no command is refused because memory runs out

abbrev is_reason : BindError → Bool
is_reason error.Memory = false
is_reason error.Text = true
is_reason error.Items = true
is_reason (error.Relation name) = true
is_reason (error.User name) = true
is_reason (error.AliasTwice alias) = true
is_reason (error.Alias alias) = true
is_reason (error.Column alias col) = true
is_reason (error.TakenUser name) = true
is_reason (error.TakenName name) = true
is_reason (error.KeyLength length) = true
is_reason error.Repeat = true
is_reason error.Deep = true
is_reason error.Arity = true
is_reason (error.Kind alias col) = true
is_reason (error.Unsafe alias col) = true

-- what is refused has another reason
abbrev HasReason : Option BindError → Type 0
HasReason o = if_there is_reason o ≡ true

when_reason : (t : Bool) (e : BindError) → is_reason e ≡ true → HasReason (refused_if t e)
when_reason true e h = h
when_reason false e h = refl

next_reason : (a b : Option BindError) → HasReason a → HasReason b → HasReason (or_next a b)
next_reason None b f g = g
next_reason (Some e) b f g = f

map_reason : {X : Type 0} (f : X → BindError) → ((x : X) → is_reason (f x) ≡ true) → (o : Option X) → HasReason (option_map f o)
map_reason f h None = refl
map_reason f h (Some x) = h x

then_reason : {X : Type 0} (f : X → Option BindError) → ((x : X) → HasReason (f x)) → (o : Option X) → HasReason (option_and_then f o)
then_reason f h None = refl
then_reason f h (Some x) = h x

first_reason : {X : Type 0} (rule : X → Option BindError) → ((x : X) → HasReason (rule x)) → (xs : List X) → HasReason (first_in rule xs)
first_reason rule h [] = refl
first_reason rule h (x ∷ xs) = next_reason (rule x) (first_in rule xs) (h x) (first_reason rule h xs)

all_reasons : (lines : List (Option BindError)) → AllByRecursion HasReason lines → HasReason (first_refusal lines)
all_reasons [] h = refl
all_reasons (line ∷ lines) h = next_reason line (first_refusal lines) h.0 (all_reasons lines h.1)

-- of queries

who_reason : (users : List UserSlot) (w : RawWho) → HasReason (who_user users w)
who_reason users (who.Name name) = when_reason (not (is_user_name users name)) (error.User name) refl
who_reason users (who.Col c) = refl

twice_reason : (seen items : List RawItem) → HasReason (alias_twice seen items)
twice_reason seen [] = refl
twice_reason seen (i ∷ is) =
    next_reason (refused_if (list_any (λ e. same_text i.alias e.alias) seen) (error.AliasTwice i.alias)) (alias_twice (seen ++ i ∷ []) is)
    (when_reason (list_any (λ e. same_text i.alias e.alias) seen) (error.AliasTwice i.alias) refl) (twice_reason (seen ++ i ∷ []) is)

module _ (rule path_rule : RawCol → Option BindError) (h : (c : RawCol) → HasReason (rule c)) (g : (c : RawCol) → HasReason (path_rule c)) where
  side_reason : (s : RawSide) → HasReason (in_side rule s)
  side_reason (sides.Col c) = h c
  side_reason (sides.Lit v) = refl

  cond_reason : (c : RawCond) → HasReason (in_cond rule c)
  cond_reason c = next_reason (rule c.left) (in_side rule c.right) (h c.left) (side_reason c.right)

  path_reason : (w : RawWho) → HasReason (in_who path_rule w)
  path_reason (who.Name name) = refl
  path_reason (who.Col c) = g c

  columns_reason : (q : RawQuery) → HasReason (in_columns rule path_rule q)
  columns_reason q =
      next_reason (first_in rule q.take) (in_later_columns rule path_rule q) (first_reason rule h q.take)
      (next_reason (first_in (in_path path_rule) q.items) (first_in (in_cond rule) q.conds)
      (first_reason (in_path path_rule) (λ i. first_reason (in_who path_rule) path_reason i.path) q.items) (first_reason (in_cond rule) cond_reason q.conds))

-- of other commands

missing_reason : (cols : List ColDef) (names : List (List ℕ)) → HasReason (missing_column cols names)
unfolding missing_column
missing_reason cols names = map_reason (error.Column None) (λ name. refl) (find (λ name. not (has_column cols name)) names)

column_reason : (cols : List ColDef) (c : Command) → HasReason (change_column cols c)
column_reason cols (Delete users sign rel conds) = missing_reason cols (cond_columns conds)
column_reason cols (Update users sign rel sets conds) =
    next_reason (missing_column cols (map (λ s. s.col) sets)) (missing_column cols (cond_columns conds)) (missing_reason cols (map (λ s. s.col) sets)) (missing_reason cols (cond_columns conds))
column_reason cols _ = refl

taken_reason : (catalog : Catalog) (c : Command) → HasReason (taken_line catalog c)
unfolding taken_line
taken_reason catalog (CreateUser name) = when_reason (is_user_name catalog.users name) (error.TakenUser name) refl
taken_reason catalog (CreateRelation name cols key) =
    let taken = is_some (relation_number catalog.rels name) || same_text name users_name in
    next_reason (refused_if taken (error.TakenName name)) (option_map error.TakenName (first_repeated [] cols))
    (when_reason taken (error.TakenName name) refl) (map_reason error.TakenName (λ name. refl) (first_repeated [] cols))
taken_reason catalog _ = refl

key_reason : (cols : List ColDef) (o : Option ℤ) → HasReason (key_refused cols o)
key_reason cols None = refl
key_reason cols (Some n) = when_reason (not (is_key_length (length cols) n)) (error.KeyLength n) refl

arity_reason : (cols : List ColDef) (o : Option (List Value)) → HasReason (values_arity cols o)
arity_reason cols None = refl
arity_reason cols (Some vals) = when_reason (not (length vals == length cols)) error.Arity refl

sets_reason : (cols : List ColDef) (sets : List RawSet) → HasReason (set_kinds cols sets)
unfolding set_kinds
sets_reason cols sets = map_reason (λ (s : RawSet). error.Kind None s.col) (λ s. refl) (find (λ s. not (fits_set cols s)) sets)

conds_reason : (cols : List ColDef) (conds : List RawCond) → HasReason (cond_kinds cols conds)
unfolding cond_kinds
conds_reason cols conds = map_reason (λ (c : RawCond). error.Kind None c.left.col) (λ c. refl) (find (λ c. not (fits_cond cols c)) conds)

values_reason : (cols : List ColDef) (vals : List Value) → HasReason (values_kind cols vals)
values_reason cols vals = map_reason (error.Kind None) (λ name. refl) (misfit cols vals)

kind_reason : (cols : List ColDef) (c : Command) → HasReason (change_kind cols c)
kind_reason cols (Insert users sign rel vals) = values_reason cols vals
kind_reason cols (Why users sign rel vals) = values_reason cols vals
kind_reason cols (Delete users sign rel conds) = conds_reason cols conds
kind_reason cols (Update users sign rel sets conds) = next_reason (set_kinds cols sets) (cond_kinds cols conds) (sets_reason cols sets) (conds_reason cols conds)
kind_reason cols _ = refl

unknown_reason : (rels : List RelDef) (o : Option (List ℕ)) → HasReason (unknown_relation rels o)
unknown_reason rels None = refl
unknown_reason rels (Some name) = when_reason (not (is_some (relation_number rels name))) (error.Relation name) refl

-- each line

text_reason : (c : Command) → HasReason (text_line c)
unfolding text_line
text_reason c = when_reason (some_text is_long c) error.Text refl

few_reason : (q : RawQuery) → HasReason (query_items q)
few_reason q = when_reason (nat_lt most_items (length q.items) || nat_lt most_select_columns (length q.take)) error.Items refl

items_reason : (c : Command) → HasReason (items_line c)
unfolding items_line
items_reason c =
    next_reason (too_many_columns c) (option_and_then query_items (query_of c)) (when_reason (nat_lt most_columns (length (new_columns c))) error.Items refl)
    (then_reason query_items few_reason (query_of c))

relation_reason : (catalog : Catalog) (c : Command) → HasReason (relation_line catalog c)
unfolding relation_line
relation_reason catalog c =
    next_reason (unknown_relation catalog.rels (relation_name c)) (option_and_then (query_relation catalog.rels) (query_of c)) (unknown_reason catalog.rels (relation_name c))
    (then_reason (query_relation catalog.rels) (λ q. first_reason (item_relation catalog.rels) (λ i. when_reason (not (is_users i || is_some (relation_number catalog.rels i.rel))) (error.Relation i.rel) refl) q.items) (query_of c))

user_reason : (catalog : Catalog) (c : Command) → HasReason (user_line catalog c)
unfolding user_line
user_reason catalog c =
    next_reason (unknown_user catalog.users (path_names c)) (option_and_then (query_user catalog.users) (query_of c))
    (map_reason error.User (λ name. refl) (find (λ name. not (is_user_name catalog.users name)) (path_names c)))
    (then_reason (query_user catalog.users) (λ q. first_reason (item_user catalog.users) (λ i. first_reason (who_user catalog.users) (who_reason catalog.users) i.path) q.items) (query_of c))

alias_twice_reason : (c : Command) → HasReason (alias_twice_line c)
unfolding alias_twice_line
alias_twice_reason c = then_reason query_alias_twice (λ q. twice_reason [] q.items) (query_of c)

alias_reason : (c : Command) → HasReason (alias_line c)
unfolding alias_line
alias_reason c =
    then_reason query_alias
    (λ q. columns_reason (column_alias q.items) (column_alias q.items) (λ x. when_reason (not (is_some (item_place q.items x.alias))) (error.Alias (unwrap_or x.alias [])) refl)
    (λ x. when_reason (not (is_some (item_place q.items x.alias))) (error.Alias (unwrap_or x.alias [])) refl) q) (query_of c)

column_line_reason : (catalog : Catalog) (c : Command) → HasReason (column_line catalog c)
unfolding column_line
column_line_reason catalog c =
    next_reason (change_column (change_columns catalog.rels c) c) (option_and_then (query_column catalog.rels) (query_of c)) (column_reason (change_columns catalog.rels c) c)
    (then_reason (query_column catalog.rels)
    (λ q. columns_reason (column_missing catalog.rels q.items) (column_not_uid q.items)
    (λ x. when_reason (not (has_column (columns_named catalog.rels q.items x.alias) x.col)) (error.Column x.alias x.col) refl)
    (λ x. when_reason (not (is_uid q.items x)) (error.Column x.alias x.col) refl) q) (query_of c))

key_line_reason : (c : Command) → HasReason (key_line c)
unfolding key_line
key_line_reason c = key_reason (new_columns c) (new_key c)

repeat_reason : (c : Command) → HasReason (repeat_line c)
unfolding repeat_line
repeat_reason c =
    next_reason (path_repeats c) (option_and_then query_repeat (query_of c)) (when_reason (has_repeat (path_names c)) error.Repeat refl)
    (then_reason query_repeat (λ q. when_reason (list_any (λ i. repeats_name i.path) q.items) error.Repeat refl) (query_of c))

deep_reason : (c : Command) → HasReason (deep_line c)
unfolding deep_line
deep_reason c =
    next_reason (path_too_deep c) (option_and_then query_deep (query_of c)) (when_reason (nat_lt (depth_limit c) (length (path_names c))) error.Deep refl)
    (then_reason query_deep (λ q. when_reason (list_any (λ i. nat_lt deepest_query (length i.path)) q.items) error.Deep refl) (query_of c))

arity_line_reason : (catalog : Catalog) (c : Command) → HasReason (arity_line catalog c)
unfolding arity_line
arity_line_reason catalog c = arity_reason (change_columns catalog.rels c) (tuple_values c)

kind_line_reason : (catalog : Catalog) (c : Command) → HasReason (kind_line catalog c)
unfolding kind_line
kind_line_reason catalog c =
    next_reason (change_kind (change_columns catalog.rels c) c) (option_and_then (query_kind catalog.rels) (query_of c)) (kind_reason (change_columns catalog.rels c) c)
    (then_reason (query_kind catalog.rels)
    (λ q. first_reason (cond_kind catalog.rels q.items)
    (λ x. when_reason (not (one_kind (kind_named catalog.rels q.items x.left) (kind_of_side catalog.rels q.items x.right))) (error.Kind x.left.alias x.left.col) refl) q.conds) (query_of c))

names_reason : (catalog : Catalog) (c : Command) → HasReason (names_refused catalog c)
unfolding names_refused
names_reason catalog c =
    all_reasons
    (text_line c ∷ items_line c ∷ relation_line catalog c ∷ user_line catalog c ∷ alias_twice_line c ∷ alias_line c ∷ column_line catalog c
    ∷ taken_line catalog c ∷ key_line c ∷ repeat_line c ∷ deep_line c ∷ arity_line catalog c ∷ kind_line catalog c ∷ []) (
      text_reason c,
      (
        items_reason c,
        (
          relation_reason catalog c,
          (
            user_reason catalog c,
            (
              alias_twice_reason c,
              (
                alias_reason c,
                (
                  column_line_reason catalog c,
                  (taken_reason catalog c, (key_line_reason c, (repeat_reason c, (deep_reason c, (arity_line_reason catalog c, (kind_line_reason catalog c, tt)))))),
                ),
              ),
            ),
          ),
        ),
      ),
    )

bound_reason : (rels : List RelDef) (b : Bound) → HasReason (bound_unsafe rels b)
bound_reason rels (bound.Select q) = map_reason (unsafe_at rels q.items) (λ at. refl) (first_unbound rels q)
bound_reason rels (bound.Explain q) = map_reason (unsafe_at rels q.items) (λ at. refl) (first_unbound rels q)
bound_reason rels _ = refl

unsafe_reason : (catalog : Catalog) (c : Command) → HasReason (unsafe_line catalog c)
unfolding unsafe_line
unsafe_reason catalog c = bound_reason catalog.rels (bound_of catalog c)

refusal_reason : (catalog : Catalog) (c : Command) → HasReason (refusal_of catalog c)
unfolding refusal_of
refusal_reason catalog c = next_reason (names_refused catalog c) (unsafe_line catalog c) (names_reason catalog c) (unsafe_reason catalog c)

some_is_not_none : (r : Refusal) → Some r ≡ None → ⊥
some_is_not_none r e = cc

reason_refuses : (e : BindError) → is_reason e ≡ true → refusal_from e ≡ None → ⊥
reason_refuses error.Memory h k = false≢true h
reason_refuses error.Text h k = some_is_not_none refusal.Text k
reason_refuses error.Items h k = some_is_not_none refusal.Items k
reason_refuses (error.Relation name) h k = some_is_not_none (refusal.Relation name) k
reason_refuses (error.User name) h k = some_is_not_none (refusal.User name) k
reason_refuses (error.AliasTwice alias) h k = some_is_not_none (refusal.AliasTwice alias) k
reason_refuses (error.Alias alias) h k = some_is_not_none (refusal.Alias alias) k
reason_refuses (error.Column alias col) h k = some_is_not_none (refusal.Column alias col) k
reason_refuses (error.TakenUser name) h k = some_is_not_none (refusal.TakenUser name) k
reason_refuses (error.TakenName name) h k = some_is_not_none (refusal.TakenName name) k
reason_refuses (error.KeyLength length) h k = some_is_not_none (refusal.KeyLength length) k
reason_refuses error.Repeat h k = some_is_not_none refusal.Repeat k
reason_refuses error.Deep h k = some_is_not_none refusal.Deep k
reason_refuses error.Arity h k = some_is_not_none refusal.Arity k
reason_refuses (error.Kind alias col) h k = some_is_not_none (refusal.Kind alias col) k
reason_refuses (error.Unsafe alias col) h k = some_is_not_none (refusal.Unsafe alias col) k

by_refusal : (o : Option BindError) → HasReason o → option_and_then refusal_from o ≡ None → o ≡ None
by_refusal None h e = refl
by_refusal (Some x) h e = absurd (reason_refuses x h e)

-- a command that the machine does not refuse, as it is bound, isn't refused by binding
pub not_refused_to_bind : (catalog : Catalog) (c : Command) → option_and_then refusal_from (refusal_of catalog c) ≡ None → refusal_of catalog c ≡ None
not_refused_to_bind catalog c e = by_refusal (refusal_of catalog c) (refusal_reason catalog c) e
