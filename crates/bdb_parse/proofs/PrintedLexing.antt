-- The parts of a printed command, read as tokens.
use Rattle.std.proofs.Common.{◌≡◌, ℕ, ℤ, Bool, true, List, [], ◌∷◌, ◌++◌, map, Option, Some, None, refl, subst}
use Rattle.std.specs.Prelude.{codes, IsSomeAnd}
use Rattle.std.specs.List.{list_all, flat_map, AllByRecursion}
use Rattle.std.proofs.lemmas.Bool.{and_parts}
use Rattle.std.proofs.lemmas.List.{append-nil}
use Rattle.bdb_base.specs.declared.kinds.ColDef.{ColDef}
use Rattle.bdb_base.specs.declared.kinds.Kind.{Kind}
use Rattle.bdb_base.specs.declared.kinds.Kind.TheVariants as kind
use Rattle.bdb_base.specs.declared.kinds.Sign.{Sign}
use Rattle.bdb_base.specs.declared.kinds.Sign.TheVariants.{Plus, Minus}
use Rattle.bdb_base.specs.declared.kinds.Value.{Value}
use Rattle.bdb_base.specs.Texts.{separated, joined, kind_text, column_text, value_text, named_column}
use Rattle.bdb_lex.specs.declared.token.Token.{Token}
use Rattle.bdb_lex.specs.declared.token.Token.TheVariants.{Word, Comma, Dot, ParenL, ParenR, Eq}
use Rattle.bdb_lex.specs.Tokens.{tokens_of}
use Rattle.bdb_syntax.specs.declared.command.Command.{Command}
use Rattle.bdb_syntax.specs.declared.command.Command.TheVariants.{CreateUser, DropUser, CreateRelation, Insert, Delete, Update, Select, Explain, ShowWorld, Why, ShowTables, Undo, Redo}
use Rattle.bdb_syntax.specs.declared.command.RawCol.{RawCol}
use Rattle.bdb_syntax.specs.declared.command.RawCond.{RawCond}
use Rattle.bdb_syntax.specs.declared.command.RawItem.{RawItem}
use Rattle.bdb_syntax.specs.declared.command.RawQuery.{RawQuery}
use Rattle.bdb_syntax.specs.declared.command.RawSet.{RawSet}
use Rattle.bdb_syntax.specs.declared.command.RawSide.{RawSide}
use Rattle.bdb_syntax.specs.declared.command.RawSide.TheVariants.{Col, Lit}
use Rattle.bdb_syntax.specs.declared.command.RawWho.{RawWho}
use Rattle.bdb_syntax.specs.declared.command.RawWho.TheVariants as who
use Rattle.bdb_syntax.specs.Printed.{col_text, side_text, cond_text, where_text, set_text, belief_text, who_text, not_text, key_text, target_text, values_text, signed_text, item_text, query_text, printed}
use Rattle.bdb_syntax.specs.Printable.{IsNameWord, IsContent, IsPrintableValue, IsBareColumn, IsFullColumn, IsPrintableSide, IsPrintableCond, IsPrintableWho, IsPrintableItem, IsPrintableSet, IsPrintableSigned, IsPrintableQuery, IsPrintable}
use Rattle.bdb_parse.specs.Fits.{value_fits, side_fits, cond_fits, set_fits, query_fits, key_fits, fits}
use Rattle.bdb_parse.proofs.PrintedTokens.{parted, value_tokens, named_tokens, col_tokens, side_tokens, cond_tokens, where_tokens, set_tokens, column_tokens, belief_tokens, who_tokens, not_tokens, target_tokens, values_tokens, signed_tokens, item_tokens, query_tokens, key_tokens, printed_tokens}
use Rattle.bdb_parse.proofs.RoundTripLexing.{is_edge, starts_edge, edge_append, edge_from_start, Reads, Ends, reads_all, reads_from_ends, ends_reads, reads_reads, reads_ends, ends_between, ends_mark, reads_word, reads_nothing}
use Rattle.bdb_parse.proofs.SpelledTokens.{word_reads, text_reads, int_reads, value_reads, cmp_reads}

-- what holds of each item, together with a test that each passes
pub both : {X : Type 0} (P : X → Type 0) (q : X → Bool) (xs : List X) → AllByRecursion P xs → list_all q xs ≡ true → AllByRecursion (λ x. P x × (q x ≡ true)) xs
both P q [] h t = tt
both P q (x ∷ xs) h t = let p = and_parts (q x) (list_all q xs) t in ((h.0, p.0), both P q xs h.1 p.1)

starts_append : (a b : List ℕ) → is_edge a ≡ true → starts_edge b ≡ true → starts_edge (a ++ b) ≡ true
starts_append [] b e f = f
starts_append (x ∷ a) b e f = e

flat_edge : {X : Type 0} (f : X → List ℕ) → ((x : X) → is_edge (f x) ≡ true) → (xs : List X) → is_edge (flat_map f xs) ≡ true
flat_edge f s [] = refl
flat_edge f s (x ∷ xs) = edge_append (f x) (flat_map f xs) (s x) (flat_edge f s xs)

reads_flat : {X : Type 0} (f : X → List ℕ) (g : X → List Token) (P : X → Type 0) → ((x : X) → P x → Reads (f x) (g x)) → ((x : X) → is_edge (f x) ≡ true)
    → (xs : List X) → AllByRecursion P xs → Reads (flat_map f xs) (flat_map g xs)
reads_flat f g P each s [] h = reads_nothing
reads_flat f g P each s (x ∷ xs) h = reads_reads (flat_edge f s xs) (each x h.0) (reads_flat f g P each s xs h.1)

abbrev later : {X : Type 0} → List ℕ → (X → List ℕ) → List X → List ℕ
later between f xs = flat_map (λ text. between ++ text) (map f xs)

later_edge : {X : Type 0} (between : List ℕ) (f : X → List ℕ) → starts_edge between ≡ true → (xs : List X) → is_edge (later between f xs) ≡ true
later_edge between f s [] = refl
later_edge between f s (x ∷ xs) = edge_append (between ++ f x) (later between f xs) (edge_from_start between (f x) s) (later_edge between f s xs)

reads_later : {X : Type 0} (between : List ℕ) (t : Token) → Ends between (t ∷ []) → starts_edge between ≡ true → (f : X → List ℕ) (g : X → List Token) (P : X → Type 0)
    → ((x : X) → P x → Reads (f x) (g x)) → (xs : List X) → AllByRecursion P xs → Reads (later between f xs) (flat_map (λ ts. t ∷ ts) (map g xs))
reads_later between t b s f g P each [] h = reads_nothing
reads_later between t b s f g P each (x ∷ xs) h = reads_reads (later_edge between f s xs) (ends_reads b (each x h.0)) (reads_later between t b s f g P each xs h.1)

reads_separated : {X : Type 0} (between : List ℕ) (t : Token) → Ends between (t ∷ []) → starts_edge between ≡ true → (f : X → List ℕ) (g : X → List Token) (P : X → Type 0)
    → ((x : X) → P x → Reads (f x) (g x)) → (xs : List X) → AllByRecursion P xs → Reads (separated between (map f xs)) (parted t (map g xs))
reads_separated between t b s f g P each [] h = reads_nothing
reads_separated between t b s f g P each (x ∷ xs) h = reads_reads (later_edge between f s xs) (each x h.0) (reads_later between t b s f g P each xs h.1)

space_ends : Ends (codes " ") []
space_ends = ends_between (codes " ") [] refl refl

ends_space : {a : List ℕ} {ts : List Token} → Reads a ts → Ends (a ++ codes " ") ts
ends_space {a} {ts} h = subst (λ us. Ends (a ++ codes " ") us) (append-nil ts) (reads_ends refl h space_ends)

comma_ends : Ends (codes ", ") (Comma ∷ [])
comma_ends = ends_between (codes ", ") (Comma ∷ []) refl refl

bare_comma_ends : Ends (codes ",") (Comma ∷ [])
bare_comma_ends = ends_mark (codes ",") [] Comma refl refl (λ b. refl) refl

dot_ends : Ends (codes ".") (Dot ∷ [])
dot_ends = ends_mark (codes ".") [] Dot refl refl (λ b. refl) refl

open_ends : Ends (codes "(") (ParenL ∷ [])
open_ends = ends_mark (codes "(") [] ParenL refl refl (λ b. refl) refl

close_ends : Ends (codes ")") (ParenR ∷ [])
close_ends = ends_mark (codes ")") [] ParenR refl refl (λ b. refl) refl

reads_joined : {X : Type 0} (f : X → List ℕ) (g : X → List Token) (P : X → Type 0) → ((x : X) → P x → Reads (f x) (g x)) → (xs : List X) → AllByRecursion P xs → Reads (joined (map f xs)) (parted Comma (map g xs))
reads_joined f g P each xs h = reads_separated (codes ", ") Comma comma_ends refl f g P each xs h

name_reads : (w : List ℕ) → IsNameWord w → Reads w (Word w ∷ [])
name_reads w h = word_reads w h.0

bare_reads : (c : RawCol) → IsBareColumn c → Reads (col_text c) (col_tokens c)
bare_reads c h = let e : c.alias ≡ None = h.0 in rw e (name_reads c.col h.1)

dotted_reads : (alias : Option (List ℕ)) (col : List ℕ) → IsSomeAnd alias IsNameWord → IsNameWord col → Reads (named_column alias col) (named_tokens alias col)
dotted_reads None col h k = absurd h
dotted_reads (Some alias) col h k = ends_reads (reads_ends refl (name_reads alias h) dot_ends) (name_reads col k)

pub full_reads : (c : RawCol) → IsFullColumn c → Reads (col_text c) (col_tokens c)
full_reads c h = dotted_reads c.alias c.col h.0 h.1

-- columns of one form read back
abbrev ColsRead : (RawCol → Type 0) → Type 0
ColsRead IsCol = (c : RawCol) → IsCol c → Reads (col_text c) (col_tokens c)

side_reads : (IsCol : RawCol → Type 0) → ColsRead IsCol → (s : RawSide) → IsPrintableSide IsCol s → side_fits s ≡ true → Reads (side_text s) (side_tokens s)
side_reads IsCol each (Col c) h f = each c h
side_reads IsCol each (Lit v) h f = value_reads v h f

-- a condition that is printable, with a literal in range
abbrev CondOk : (RawCol → Type 0) → RawCond → Type 0
CondOk IsCol c = IsPrintableCond IsCol c × (cond_fits c ≡ true)

cond_reads : (IsCol : RawCol → Type 0) → ColsRead IsCol → (c : RawCond) → CondOk IsCol c → Reads (cond_text c) (cond_tokens c)
cond_reads IsCol each c h = ends_reads (ends_space (ends_reads (ends_space (each c.left h.0.0)) (cmp_reads c.cmp))) (side_reads IsCol each c.right h.0.1 h.1)

where_reads : (IsCol : RawCol → Type 0) → ColsRead IsCol → (cs : List RawCond) → AllByRecursion (IsPrintableCond IsCol) cs → list_all cond_fits cs ≡ true → Reads (where_text cs) (where_tokens cs)
where_reads IsCol each [] h f = reads_nothing
where_reads IsCol each (c ∷ cs) h f =
    ends_reads (ends_between (codes " where ") (Word (codes "where") ∷ []) refl refl)
    (reads_separated (codes " and ") (Word (codes "and")) (ends_between (codes " and ") (Word (codes "and") ∷ []) refl refl) refl
    cond_text cond_tokens (CondOk IsCol) (cond_reads IsCol each) (c ∷ cs) (both (IsPrintableCond IsCol) cond_fits (c ∷ cs) h f))

where_edge : (cs : List RawCond) → is_edge (where_text cs) ≡ true
where_edge [] = refl
where_edge (c ∷ cs) = refl

set_reads : (s : RawSet) → IsPrintableSet s × (set_fits s ≡ true) → Reads (set_text s) (set_tokens s)
set_reads s h = ends_reads (reads_ends refl (name_reads s.col h.0.0) (ends_between (codes " = ") (Eq ∷ []) refl refl)) (value_reads s.to h.0.1 h.1)

kind_reads : (k : Kind) → Reads (kind_text k) (Word (kind_text k) ∷ [])
kind_reads kind.Int = word_reads (codes "int") refl
kind_reads kind.Text = word_reads (codes "text") refl

column_reads : (c : ColDef) → IsNameWord c.name → Reads (column_text c) (column_tokens c)
column_reads c h = ends_reads (ends_space (name_reads c.name h)) (kind_reads c.kind)

belief_ends : Ends (codes " BELIEF ") (Word (codes "BELIEF") ∷ [])
belief_ends = ends_between (codes " BELIEF ") (Word (codes "BELIEF") ∷ []) refl refl

belief_reads : (user : List ℕ) → IsContent user → Reads (belief_text user) (belief_tokens user)
belief_reads user h = ends_reads belief_ends (text_reads user h)

beliefs_read : (users : List (List ℕ)) → AllByRecursion IsContent users → Reads (flat_map belief_text users) (flat_map belief_tokens users)
beliefs_read users h = reads_flat belief_text belief_tokens IsContent belief_reads (λ u. refl) users h

who_reads : (w : RawWho) → IsPrintableWho w → Reads (who_text w) (who_tokens w)
who_reads (who.Name user) h = belief_reads user h
who_reads (who.Col c) h = ends_reads belief_ends (full_reads c h)

who_edge : (w : RawWho) → is_edge (who_text w) ≡ true
who_edge (who.Name user) = refl
who_edge (who.Col c) = refl

not_reads : (s : Sign) → Reads (not_text s) (not_tokens s)
not_reads Plus = reads_nothing
not_reads Minus = reads_word (codes " not") [] (codes "not") refl refl refl

not_edge : (s : Sign) → is_edge (not_text s) ≡ true
not_edge Plus = refl
not_edge Minus = refl

-- what begins with users and a sign, and then a space, begins with an edge
sign_edge : (front rest : List ℕ) (s : Sign) → is_edge front ≡ true → is_edge (front ++ not_text s ++ codes " " ++ rest) ≡ true
sign_edge front rest s e = edge_from_start (front ++ not_text s ++ codes " ") rest (starts_append (front ++ not_text s) (codes " ") (edge_append front (not_text s) e (not_edge s)) refl)

target_edge : (users : List (List ℕ)) (s : Sign) (rel : List ℕ) → is_edge (target_text users s rel) ≡ true
target_edge users s rel = sign_edge (flat_map belief_text users) rel s (flat_edge belief_text (λ u. refl) users)

target_reads : (users : List (List ℕ)) (s : Sign) (rel : List ℕ) → AllByRecursion IsContent users → IsNameWord rel → Reads (target_text users s rel) (target_tokens users s rel)
target_reads users s rel h k = ends_reads (ends_space (reads_reads (not_edge s) (beliefs_read users h) (not_reads s))) (name_reads rel k)

values_read : (vals : List Value) → AllByRecursion IsPrintableValue vals → list_all value_fits vals ≡ true → Ends (values_text vals) (values_tokens vals)
values_read vals h f =
    reads_ends refl
    (ends_reads (ends_mark (codes " values(") (Word (codes "values") ∷ []) ParenL refl refl (λ b. refl) refl)
    (reads_joined value_text value_tokens (λ v. IsPrintableValue v × (value_fits v ≡ true)) (λ v p. value_reads v p.0 p.1) vals (both IsPrintableValue value_fits vals h f)))
    close_ends

signed_reads : (users : List (List ℕ)) (s : Sign) (rel : List ℕ) (vals : List Value) → IsPrintableSigned users rel vals → list_all value_fits vals ≡ true → Reads (signed_text users s rel vals) (signed_tokens users s rel vals)
signed_reads users s rel vals h f = reads_from_ends (reads_ends refl (target_reads users s rel h.0 h.1) (values_read vals h.2 f))

signed_edge : (users : List (List ℕ)) (s : Sign) (rel : List ℕ) (vals : List Value) → is_edge (signed_text users s rel vals) ≡ true
signed_edge users s rel vals = edge_append (target_text users s rel) (values_text vals) (target_edge users s rel) refl

item_reads : (i : RawItem) → IsPrintableItem i → Reads (item_text i) (item_tokens i)
item_reads i h =
    ends_reads (ends_space (ends_reads (ends_space (reads_reads (not_edge i.sign) (reads_flat who_text who_tokens IsPrintableWho who_reads who_edge i.path h.0) (not_reads i.sign)))
    (name_reads i.rel h.1))) (name_reads i.alias h.2)

item_edge : (i : RawItem) → is_edge (item_text i) ≡ true
item_edge i =
    let front = flat_map who_text i.path in
    edge_from_start (front ++ not_text i.sign ++ codes " " ++ i.rel ++ codes " ") i.alias
    (starts_append (front ++ not_text i.sign ++ codes " " ++ i.rel) (codes " ") (sign_edge front i.rel i.sign (flat_edge who_text who_edge i.path)) refl)

items_edge : (items : List RawItem) → is_edge (separated (codes ",") (map item_text items)) ≡ true
items_edge [] = refl
items_edge (i ∷ items) = edge_append (item_text i) (later (codes ",") item_text items) (item_edge i) (later_edge (codes ",") item_text refl items)

query_reads : (q : RawQuery) → IsPrintableQuery q → query_fits q ≡ true → Reads (query_text q) (query_tokens q)
query_reads q h f =
    reads_reads (where_edge q.conds)
    (reads_reads (items_edge q.items)
    (reads_reads refl
    (ends_reads (ends_between (codes "select ") (Word (codes "select") ∷ []) refl refl) (reads_joined col_text col_tokens IsFullColumn full_reads q.take h.0))
    (reads_word (codes " from") [] (codes "from") refl refl refl))
    (reads_separated (codes ",") Comma bare_comma_ends refl item_text item_tokens IsPrintableItem item_reads q.items h.1))
    (where_reads IsFullColumn full_reads q.conds h.2 f)

key_reads : (key : Option ℤ) → key_fits key ≡ true → Reads (key_text key) (key_tokens key)
key_reads None f = reads_nothing
key_reads (Some length) f = ends_reads (ends_between (codes " key ") (Word (codes "key") ∷ []) refl refl) (int_reads length f)

command_reads : (c : Command) → IsPrintable c → fits c ≡ true → Reads (printed c) (printed_tokens c)
command_reads (CreateUser name) p f = ends_reads (ends_between (codes "create user ") (Word (codes "create") ∷ Word (codes "user") ∷ []) refl refl) (text_reads name p.parts)
command_reads (DropUser name) p f = ends_reads (ends_between (codes "drop user ") (Word (codes "drop") ∷ Word (codes "user") ∷ []) refl refl) (text_reads name p.parts)
command_reads (CreateRelation name cols key) p f =
    ends_reads (reads_ends refl
    (ends_reads (reads_ends refl (ends_reads (ends_between (codes "create relation ") (Word (codes "create") ∷ Word (codes "relation") ∷ []) refl refl) (name_reads name p.parts.0)) open_ends)
    (reads_joined column_text column_tokens (λ (c : ColDef). IsNameWord c.name) column_reads cols p.parts.1))
    close_ends) (key_reads key f)
command_reads (Insert users sign rel vals) p f =
    reads_reads (signed_edge users sign rel vals) (reads_word (codes "insert into") (Word (codes "insert") ∷ []) (codes "into") refl refl refl)
    (signed_reads users sign rel vals p.parts f)
command_reads (Delete users sign rel conds) p f =
    reads_reads (where_edge conds)
    (reads_reads (target_edge users sign rel) (reads_word (codes "delete from") (Word (codes "delete") ∷ []) (codes "from") refl refl refl) (target_reads users sign rel p.parts.0 p.parts.1))
    (where_reads IsBareColumn bare_reads conds p.parts.2 f)
command_reads (Update users sign rel sets conds) p f =
    let fit = and_parts (list_all set_fits sets) (list_all cond_fits conds) f in
    reads_reads (where_edge conds)
    (ends_reads (reads_ends refl
    (reads_reads (target_edge users sign rel) (reads_word (codes "update") [] (codes "update") refl refl refl) (target_reads users sign rel p.parts.0 p.parts.1))
    (ends_between (codes " set ") (Word (codes "set") ∷ []) refl refl))
    (reads_joined set_text set_tokens (λ s. IsPrintableSet s × (set_fits s ≡ true)) set_reads sets (both IsPrintableSet set_fits sets p.parts.2 fit.0)))
    (where_reads IsBareColumn bare_reads conds p.parts.3 fit.1)
command_reads (Select query) p f = query_reads query p.parts f
command_reads (Explain query) p f = ends_reads (ends_between (codes "explain ") (Word (codes "explain") ∷ []) refl refl) (query_reads query p.parts f)
command_reads (ShowWorld users) p f =
    reads_reads (flat_edge belief_text (λ u. refl) users) (reads_word (codes "show world") (Word (codes "show") ∷ []) (codes "world") refl refl refl) (beliefs_read users p.parts)
command_reads (Why users sign rel vals) p f =
    reads_reads (signed_edge users sign rel vals) (reads_word (codes "why") [] (codes "why") refl refl refl) (signed_reads users sign rel vals p.parts f)
command_reads ShowTables p f = reads_word (codes "show tables") (Word (codes "show") ∷ []) (codes "tables") refl refl refl
command_reads Undo p f = reads_word (codes "undo") [] (codes "undo") refl refl refl
command_reads Redo p f = reads_word (codes "redo") [] (codes "redo") refl refl refl

-- the printed form of a command is these tokens
pub printed_lexes : (c : Command) → IsPrintable c → fits c ≡ true → tokens_of (printed c) ≡ Some (printed_tokens c)
printed_lexes c p f = reads_all (printed c) (printed_tokens c) (command_reads c p f)
