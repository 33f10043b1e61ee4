-- The parts of a command, parsed from their tokens.
use Rattle.std.proofs.Common.{◌≡◌, ℕ, zero, suc, Bool, false, List, [], ◌∷◌, ◌++◌, Option, Some, None, refl, sym, ap, ◌∙◌}
use Rattle.std.specs.Prelude.{codes, IsSomeAnd}
use Rattle.std.specs.List.{list_any, flat_map, slice_get, AllByRecursion}
use Rattle.std.proofs.lemmas.Bool.{or_parts, cond-false}
use Rattle.bdb_base.specs.declared.kinds.Cmp.{Cmp}
use Rattle.bdb_base.specs.declared.kinds.Cmp.TheVariants as cmp
use Rattle.bdb_base.specs.declared.kinds.ColDef.{ColDef}
use Rattle.bdb_base.specs.declared.kinds.Kind.{Kind}
use Rattle.bdb_base.specs.declared.kinds.Kind.TheVariants as kind
use Rattle.bdb_base.specs.declared.kinds.Sign.{Sign}
use Rattle.bdb_base.specs.declared.kinds.Sign.TheVariants.{Plus, Minus}
use Rattle.bdb_base.specs.declared.kinds.Value.{Value}
use Rattle.bdb_base.specs.declared.kinds.Value.TheVariants as value
use Rattle.bdb_base.specs.Texts.{int_text, kind_text}
use Rattle.bdb_lex.specs.declared.token.Token.{Token}
use Rattle.bdb_lex.specs.declared.token.Token.TheVariants.{Word, Text, Num, Dot, Eq}
use Rattle.bdb_syntax.specs.declared.command.RawCol.{RawCol}
use Rattle.bdb_syntax.specs.declared.command.RawCond.{RawCond}
use Rattle.bdb_syntax.specs.declared.command.RawItem.{RawItem}
use Rattle.bdb_syntax.specs.declared.command.RawSet.{RawSet}
use Rattle.bdb_syntax.specs.declared.command.RawSide.{RawSide}
use Rattle.bdb_syntax.specs.declared.command.RawSide.TheVariants.{Col, Lit}
use Rattle.bdb_syntax.specs.declared.command.RawWho.{RawWho}
use Rattle.bdb_syntax.specs.declared.command.RawWho.TheVariants as who
use Rattle.bdb_syntax.specs.Keywords.{is_keyword, is_reserved, reserved}
use Rattle.bdb_syntax.specs.Printable.{IsNameWord, IsBareColumn, IsFullColumn, IsPrintableWho, IsPrintableItem}
use Rattle.bdb_parse.specs.declared.stop.Stop.{Stop}
use Rattle.bdb_parse.specs.declared.stop.Stop.TheVariants as stops
use Rattle.bdb_parse.specs.Stops.{is_stop}
use Rattle.bdb_parse.specs.Reading.{name_at, keyword_at}
use Rattle.bdb_parse.proofs.PrintedTokens.{value_tokens, named_tokens, col_tokens, side_tokens, cmp_token, cond_tokens, set_tokens, column_tokens, who_tokens, not_tokens, item_tokens}
use Rattle.bdb_parse.proofs.ParsedLists.{IsClear, clear_append}

-- what no item passes, the one at a place doesn't
none_at : {X : Type 0} (p : X → Bool) (n : ℕ) (xs : List X) (x : X) → slice_get xs n ≡ Some x → list_any p xs ≡ false → p x ≡ false
none_at p n [] x e h = cc
none_at p zero (y ∷ xs) x e h = let same : y ≡ x = cc in ap p (sym same) ∙ (or_parts (p y) (list_any p xs) h).0
none_at p (suc n) (y ∷ xs) x e h = none_at p n xs x e (or_parts (p y) (list_any p xs) h).1

-- a name is no reserved keyword
pub no_keyword : (n : ℕ) (keyword w : List ℕ) → slice_get reserved n ≡ Some keyword → is_reserved w ≡ false → is_keyword keyword w ≡ false
no_keyword n keyword w e h = none_at (λ k. is_keyword k w) n reserved keyword e h

pub name_takes : (w : List ℕ) (ts : List Token) → IsNameWord w → name_at (Word w ∷ ts) ≡ Some (w, ts)
unfolding name_at
name_takes w ts h = cond-false (is_reserved w) _ _ h.1

pub keyword_misses : (keyword w : List ℕ) (ts : List Token) → is_keyword keyword w ≡ false → keyword_at keyword (Word w ∷ ts) ≡ None
unfolding keyword_at
keyword_misses keyword w ts h = cond-false (is_keyword keyword w) _ _ h

-- names, texts, numbers and signs are no stops
pub name_clear : (w : List ℕ) → IsNameWord w → IsClear (Word w ∷ [])
name_clear w h stops.Comma = refl
name_clear w h stops.Close = refl
name_clear w h stops.And = rw (no_keyword 0 (codes "and") w refl h.1) refl
name_clear w h stops.From = rw (no_keyword 4 (codes "from") w refl h.1) refl
name_clear w h stops.Where = rw (no_keyword 13 (codes "where") w refl h.1) refl

dot_clear : IsClear (Dot ∷ [])
dot_clear stops.Comma = refl
dot_clear stops.Close = refl
dot_clear stops.And = refl
dot_clear stops.From = refl
dot_clear stops.Where = refl

equal_clear : IsClear (Eq ∷ [])
equal_clear stops.Comma = refl
equal_clear stops.Close = refl
equal_clear stops.And = refl
equal_clear stops.From = refl
equal_clear stops.Where = refl

text_clear : (t : List ℕ) → IsClear (Text t ∷ [])
text_clear t stops.Comma = refl
text_clear t stops.Close = refl
text_clear t stops.And = refl
text_clear t stops.From = refl
text_clear t stops.Where = refl

num_clear : (n : List ℕ) → IsClear (Num n ∷ [])
num_clear n stops.Comma = refl
num_clear n stops.Close = refl
num_clear n stops.And = refl
num_clear n stops.From = refl
num_clear n stops.Where = refl

belief_word_clear : IsClear (Word (codes "BELIEF") ∷ [])
belief_word_clear stops.Comma = refl
belief_word_clear stops.Close = refl
belief_word_clear stops.And = refl
belief_word_clear stops.From = refl
belief_word_clear stops.Where = refl

not_word_clear : IsClear (Word (codes "not") ∷ [])
not_word_clear stops.Comma = refl
not_word_clear stops.Close = refl
not_word_clear stops.And = refl
not_word_clear stops.From = refl
not_word_clear stops.Where = refl

int_word_clear : IsClear (Word (codes "int") ∷ [])
int_word_clear stops.Comma = refl
int_word_clear stops.Close = refl
int_word_clear stops.And = refl
int_word_clear stops.From = refl
int_word_clear stops.Where = refl

text_word_clear : IsClear (Word (codes "text") ∷ [])
text_word_clear stops.Comma = refl
text_word_clear stops.Close = refl
text_word_clear stops.And = refl
text_word_clear stops.From = refl
text_word_clear stops.Where = refl

clear_both : (a b : List Token) → IsClear a → IsClear b → IsClear (a ++ b)
clear_both a b h k stop = clear_append stop a b (h stop) (k stop)

pub value_clear : (v : Value) → IsClear (value_tokens v)
value_clear (value.Int n) = num_clear (int_text n)
value_clear (value.Text t) = text_clear t

cmp_clear : (c : Cmp) → (stop : Stop) → is_stop stop (cmp_token c) ≡ false
cmp_clear cmp.Eq stops.Comma = refl
cmp_clear cmp.Eq stops.Close = refl
cmp_clear cmp.Eq stops.And = refl
cmp_clear cmp.Eq stops.From = refl
cmp_clear cmp.Eq stops.Where = refl
cmp_clear cmp.Ne stops.Comma = refl
cmp_clear cmp.Ne stops.Close = refl
cmp_clear cmp.Ne stops.And = refl
cmp_clear cmp.Ne stops.From = refl
cmp_clear cmp.Ne stops.Where = refl
cmp_clear cmp.Lt stops.Comma = refl
cmp_clear cmp.Lt stops.Close = refl
cmp_clear cmp.Lt stops.And = refl
cmp_clear cmp.Lt stops.From = refl
cmp_clear cmp.Lt stops.Where = refl
cmp_clear cmp.Le stops.Comma = refl
cmp_clear cmp.Le stops.Close = refl
cmp_clear cmp.Le stops.And = refl
cmp_clear cmp.Le stops.From = refl
cmp_clear cmp.Le stops.Where = refl
cmp_clear cmp.Gt stops.Comma = refl
cmp_clear cmp.Gt stops.Close = refl
cmp_clear cmp.Gt stops.And = refl
cmp_clear cmp.Gt stops.From = refl
cmp_clear cmp.Gt stops.Where = refl
cmp_clear cmp.Ge stops.Comma = refl
cmp_clear cmp.Ge stops.Close = refl
cmp_clear cmp.Ge stops.And = refl
cmp_clear cmp.Ge stops.From = refl
cmp_clear cmp.Ge stops.Where = refl

cmp_token_clear : (c : Cmp) → IsClear (cmp_token c ∷ [])
cmp_token_clear c stop = rw (cmp_clear c stop) refl

dotted_clear : (alias : Option (List ℕ)) (col : List ℕ) → IsSomeAnd alias IsNameWord → IsNameWord col → IsClear (named_tokens alias col)
dotted_clear None col h k = absurd h
dotted_clear (Some a) col h k = clear_both (Word a ∷ []) (Dot ∷ Word col ∷ []) (name_clear a h) (clear_both (Dot ∷ []) (Word col ∷ []) dot_clear (name_clear col k))

pub full_clear : (c : RawCol) → IsFullColumn c → IsClear (col_tokens c)
full_clear c h = dotted_clear c.alias c.col h.0 h.1

named_bare_clear : (alias : Option (List ℕ)) (col : List ℕ) → alias ≡ None → IsNameWord col → IsClear (named_tokens alias col)
named_bare_clear None col e k = name_clear col k
named_bare_clear (Some a) col e k = cc

pub bare_clear : (c : RawCol) → IsBareColumn c → IsClear (col_tokens c)
bare_clear c h = named_bare_clear c.alias c.col h.0 h.1

not_clear : (s : Sign) → IsClear (not_tokens s)
not_clear Plus = λ stop. refl
not_clear Minus = not_word_clear

who_clear : (w : RawWho) → IsPrintableWho w → IsClear (who_tokens w)
who_clear (who.Name user) h = clear_both (Word (codes "BELIEF") ∷ []) (Text user ∷ []) belief_word_clear (text_clear user)
who_clear (who.Col c) h = clear_both (Word (codes "BELIEF") ∷ []) (col_tokens c) belief_word_clear (full_clear c h)

whos_clear : (path : List RawWho) → AllByRecursion IsPrintableWho path → IsClear (flat_map who_tokens path)
whos_clear [] h stop = refl
whos_clear (w ∷ path) h stop = clear_append stop (who_tokens w) (flat_map who_tokens path) (who_clear w h.0 stop) (whos_clear path h.1 stop)

pub item_clear : (i : RawItem) → IsPrintableItem i → IsClear (item_tokens i)
item_clear i h =
    clear_both (flat_map who_tokens i.path ++ not_tokens i.sign ++ Word i.rel ∷ []) (Word i.alias ∷ [])
    (clear_both (flat_map who_tokens i.path ++ not_tokens i.sign) (Word i.rel ∷ [])
    (clear_both (flat_map who_tokens i.path) (not_tokens i.sign) (whos_clear i.path h.0) (not_clear i.sign)) (name_clear i.rel h.1))
    (name_clear i.alias h.2)

-- the column of a side, where it is one
abbrev pub IsSideOf : (RawCol → Type 0) → RawSide → Type 0
IsSideOf IsCol (Col c) = IsCol c
IsSideOf IsCol (Lit v) = Unit {0}

side_clear : (IsCol : RawCol → Type 0) → ((c : RawCol) → IsCol c → IsClear (col_tokens c)) → (s : RawSide) → IsSideOf IsCol s → IsClear (side_tokens s)
side_clear IsCol each (Col c) h = each c h
side_clear IsCol each (Lit v) h = value_clear v

pub cond_clear : (IsCol : RawCol → Type 0) → ((c : RawCol) → IsCol c → IsClear (col_tokens c)) → (c : RawCond) → IsCol c.left → IsSideOf IsCol c.right → IsClear (cond_tokens c)
cond_clear IsCol each c h k =
    clear_both (col_tokens c.left ++ cmp_token c.cmp ∷ []) (side_tokens c.right)
    (clear_both (col_tokens c.left) (cmp_token c.cmp ∷ []) (each c.left h) (cmp_token_clear c.cmp)) (side_clear IsCol each c.right k)

pub set_clear : (s : RawSet) → IsNameWord s.col → IsClear (set_tokens s)
set_clear s h = clear_both (Word s.col ∷ []) (Eq ∷ value_tokens s.to) (name_clear s.col h) (clear_both (Eq ∷ []) (value_tokens s.to) equal_clear (value_clear s.to))

kind_clear : (k : Kind) → IsClear (Word (kind_text k) ∷ [])
kind_clear kind.Int = int_word_clear
kind_clear kind.Text = text_word_clear

pub column_clear : (c : ColDef) → IsNameWord c.name → IsClear (column_tokens c)
column_clear c h = clear_both (Word c.name ∷ []) (Word (kind_text c.kind) ∷ []) (name_clear c.name h) (kind_clear c.kind)
