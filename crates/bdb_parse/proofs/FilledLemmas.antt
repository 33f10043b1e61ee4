-- A command that was read has the lists that the grammar wants filled.
use Rattle.std.proofs.Common.{◌≡◌, ℕ, ℤ, Bool, true, false, cond, List, ◌∷◌, Option, Some, None, refl, sym, subst}
use Rattle.std.specs.Prelude.{codes}
use Rattle.std.specs.Option.{option_map}
use Rattle.std.proofs.lemmas.Bool.{and_from}
use Rattle.bdb_base.specs.declared.kinds.Value.{Value}
use Rattle.bdb_lex.specs.declared.token.Token.{Token}
use Rattle.bdb_syntax.specs.declared.command.RawQuery.{RawQuery}
use Rattle.bdb_syntax.specs.declared.command.Command.{Command}
use Rattle.bdb_syntax.specs.declared.command.Command.TheVariants.{Select, Explain, ShowTables, Undo, Redo}
use Rattle.bdb_syntax.specs.Keywords.{is_keyword}
use Rattle.bdb_syntax.specs.Filled.{is_filled, query_filled, IsFilled}
use Rattle.bdb_parse.specs.declared.stop.Stop.{Stop}
use Rattle.bdb_parse.specs.declared.stop.Stop.TheVariants as stops
use Rattle.bdb_parse.specs.declared.target.Target.{Target}
use Rattle.bdb_parse.specs.Stops.{cut}
use Rattle.bdb_parse.specs.Reading.{◌>>=◌, end_at, word_at, text_at, keyword_at, name_at, literal_of, set_of, col_of, test_of, cond_of, all_of, list_of, conds_of, inside_at, inside_of, key_of, target_at, column_of, item_of, create_user_of, create_relation_of, create_of, signed_of, insert_of, delete_of, update_of, query_of, explain_of, show_world_of, show_of, why_of, drop_of, one_word_of, command_after, command_by, beliefs_at}
use Rattle.bdb_parse.proofs.CutLemmas.{parts_after, parts_cut}

-- what is read, if anything is, has P
abbrev pub Each : {X : Type 0} → (X → Type 0) → Option X → Type 0
Each P None = Unit {0}
Each P (Some x) = P x

pub each_behind : {X Y : Type 0} (P : Y → Type 0) (o : Option X) (k : X → Option Y) → ((x : X) → o ≡ Some x → Each P (k x)) → Each P (o >>= k)
each_behind P None k h = tt
each_behind P (Some x) k h = h x refl

pub each_map : {X Y : Type 0} (P : Y → Type 0) (g : X → Y) (o : Option X) → ((x : X) → o ≡ Some x → P (g x)) → Each P (option_map g o)
each_map P g None h = tt
each_map P g (Some x) h = h x refl

pub each_cond : {X : Type 0} (P : X → Type 0) (b : Bool) (o p : Option X) → Each P o → Each P p → Each P (cond b o p)
each_cond P true o p h i = h
each_cond P false o p h i = i

pub each_at : {X : Type 0} (P : X → Type 0) (o : Option X) (x : X) → Each P o → o ≡ Some x → P x
each_at {X = X} P o x h e = let F : Option X → Type 0 = λ q. Each P q in subst F e h

abbrev HasItem : {X : Type 0} → List X → Type 0
HasItem xs = is_filled xs ≡ true

all_filled : {X : Type 0} (read : List Token → Option X) (p : List Token) (ps : List (List Token)) → Each HasItem (all_of read (p ∷ ps))
all_filled read p ps =
    each_behind HasItem (read p) _ (λ x e. each_behind HasItem (all_of read ps) _ (λ xs f. refl))

list_each : {X : Type 0} (read : List Token → Option X) (stop : Stop) (ts : List Token) → Each HasItem (list_of read stop ts)
unfolding list_of
list_each {X} read stop ts =
    let F : List (List Token) → Type 0 = λ ps. Each HasItem (all_of read ps) in
    subst F (sym (parts_cut stop ts)) (all_filled read (cut stop ts).0 (parts_after stop (cut stop ts).1))

pub list_filled : {X : Type 0} (read : List Token → Option X) (stop : Stop) (ts : List Token) (xs : List X) → list_of read stop ts ≡ Some xs → is_filled xs ≡ true
list_filled read stop ts xs e = each_at HasItem _ xs (list_each read stop ts) e

create_filled : (number : List ℕ → Option ℤ) (ts : List Token) → Each IsFilled (create_of number ts)
unfolding create_of create_user_of create_relation_of
create_filled number ts =
    each_behind IsFilled (word_at ts) _ (λ word e.
    each_cond IsFilled (is_keyword (codes "user") word.0) _ _
    (each_behind IsFilled (text_at word.1) _ (λ name f. each_behind IsFilled (end_at name.1) _ (λ rest g. refl)))
    (each_cond IsFilled (is_keyword (codes "relation") word.0) _ _
    (each_behind IsFilled (name_at word.1) _ (λ name f.
    each_behind IsFilled (inside_at name.1) _ (λ inside g.
    each_behind IsFilled (list_of column_of stops.Comma inside.0) _ (λ cols h.
    each_behind IsFilled (key_of number inside.1) _ (λ key i. list_filled column_of stops.Comma inside.0 cols h)))))
    tt))

-- a tuple has a value
abbrev HasValue : Target × List Value → Type 0
HasValue signed = HasItem signed.1

signed_filled : (number : List ℕ → Option ℤ) (ts : List Token) → Each HasValue (signed_of number ts)
unfolding signed_of
signed_filled number ts =
    each_behind HasValue (target_at ts) _ (λ target f.
    each_behind HasValue (keyword_at (codes "values") target.1) _ (λ rest g.
    each_behind HasValue (inside_of rest) _ (λ inside h.
    each_behind HasValue (list_of (literal_of number) stops.Comma inside) _ (λ vals i. list_filled (literal_of number) stops.Comma inside vals i))))

insert_filled : (number : List ℕ → Option ℤ) (ts : List Token) → Each IsFilled (insert_of number ts)
unfolding insert_of
insert_filled number ts =
    each_behind IsFilled (keyword_at (codes "into") ts) _ (λ into e.
    each_behind IsFilled (signed_of number into) _ (λ signed f. each_at HasValue _ signed (signed_filled number into) f))

why_filled : (number : List ℕ → Option ℤ) (ts : List Token) → Each IsFilled (why_of number ts)
unfolding why_of
why_filled number ts =
    each_behind IsFilled (signed_of number ts) _ (λ signed f. each_at HasValue _ signed (signed_filled number ts) f)

delete_filled : (number : List ℕ → Option ℤ) (ts : List Token) → Each IsFilled (delete_of number ts)
unfolding delete_of
delete_filled number ts =
    each_behind IsFilled (keyword_at (codes "from") ts) _ (λ from e.
    each_behind IsFilled (target_at from) _ (λ target f.
    each_behind IsFilled (end_at (cut stops.Where target.1).0) _ (λ rest g.
    each_behind IsFilled (conds_of (test_of number) (cut stops.Where target.1).1) _ (λ conds h. refl))))

update_filled : (number : List ℕ → Option ℤ) (ts : List Token) → Each IsFilled (update_of number ts)
unfolding update_of
update_filled number ts =
    each_behind IsFilled (target_at ts) _ (λ target e.
    each_behind IsFilled (keyword_at (codes "set") target.1) _ (λ rest f.
    each_behind IsFilled (list_of (set_of number) stops.Comma (cut stops.Where rest).0) _ (λ sets g.
    each_behind IsFilled (conds_of (test_of number) (cut stops.Where rest).1) _ (λ conds h. list_filled (set_of number) stops.Comma (cut stops.Where rest).0 sets g))))

abbrev IsFilledQuery : RawQuery → Type 0
IsFilledQuery q = query_filled q ≡ true

query_is_filled : (number : List ℕ → Option ℤ) (ts : List Token) → Each IsFilledQuery (query_of number ts)
unfolding query_of
query_is_filled number ts =
    each_behind IsFilledQuery (cut stops.From ts).1 _ (λ rest e.
    each_behind IsFilledQuery (list_of col_of stops.Comma (cut stops.From ts).0) _ (λ take f.
    each_behind IsFilledQuery (list_of item_of stops.Comma (cut stops.Where rest).0) _ (λ items g.
    each_behind IsFilledQuery (conds_of (cond_of number) (cut stops.Where rest).1) _ (λ conds h.
    and_from _ _ (list_filled col_of stops.Comma (cut stops.From ts).0 take f) (list_filled item_of stops.Comma (cut stops.Where rest).0 items g)))))

explain_filled : (number : List ℕ → Option ℤ) (ts : List Token) → Each IsFilled (explain_of number ts)
unfolding explain_of
explain_filled number ts =
    each_behind IsFilled (keyword_at (codes "select") ts) _ (λ rest e.
    each_map IsFilled Explain (query_of number rest) (λ q f. each_at IsFilledQuery _ q (query_is_filled number rest) f))

show_filled : (ts : List Token) → Each IsFilled (show_of ts)
unfolding show_of show_world_of
show_filled ts =
    each_behind IsFilled (word_at ts) _ (λ word e.
    each_cond IsFilled (is_keyword (codes "world") word.0) _ _
    (each_behind IsFilled (end_at (beliefs_at word.1).1) _ (λ rest f. refl))
    (each_cond IsFilled (is_keyword (codes "tables") word.0) _ _ (each_map IsFilled (λ _. ShowTables) (end_at word.1) (λ _ _. refl)) tt))

drop_filled : (ts : List Token) → Each IsFilled (drop_of ts)
unfolding drop_of
drop_filled ts =
    each_behind IsFilled (keyword_at (codes "user") ts) _ (λ rest e.
    each_behind IsFilled (text_at rest) _ (λ name f. each_behind IsFilled (end_at name.1) _ (λ _ g. refl)))

one_word_filled : (word : List ℕ) (ts : List Token) → Each IsFilled (one_word_of word ts)
unfolding one_word_of
one_word_filled word ts =
    each_cond IsFilled (is_keyword (codes "undo") word) _ _ (each_map IsFilled (λ _. Undo) (end_at ts) (λ _ _. refl))
    (each_cond IsFilled (is_keyword (codes "redo") word) _ _ (each_map IsFilled (λ _. Redo) (end_at ts) (λ _ _. refl)) tt)

after_filled : (number : List ℕ → Option ℤ) (word : List ℕ) (ts : List Token) → Each IsFilled (command_after number word ts)
unfolding command_after
after_filled number word ts =
    each_cond IsFilled (is_keyword (codes "create") word) _ _ (create_filled number ts)
    (each_cond IsFilled (is_keyword (codes "insert") word) _ _ (insert_filled number ts)
    (each_cond IsFilled (is_keyword (codes "delete") word) _ _ (delete_filled number ts)
    (each_cond IsFilled (is_keyword (codes "update") word) _ _ (update_filled number ts)
    (each_cond IsFilled (is_keyword (codes "select") word) _ _ (each_map IsFilled Select (query_of number ts) (λ q f. each_at IsFilledQuery _ q (query_is_filled number ts) f))
    (each_cond IsFilled (is_keyword (codes "explain") word) _ _ (explain_filled number ts)
    (each_cond IsFilled (is_keyword (codes "show") word) _ _ (show_filled ts)
    (each_cond IsFilled (is_keyword (codes "why") word) _ _ (why_filled number ts)
    (each_cond IsFilled (is_keyword (codes "drop") word) _ _ (drop_filled ts) (one_word_filled word ts)))))))))

pub command_filled_of : (number : List ℕ → Option ℤ) (ts : List Token) (c : Command) → command_by number ts ≡ Some c → IsFilled c
unfolding command_by
command_filled_of number ts c e =
    each_at IsFilled (command_by number ts) c (each_behind IsFilled (word_at ts) _ (λ word f. after_filled number word.0 word.1)) e
