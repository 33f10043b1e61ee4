-- What is in the grammar is read: words, symbols and lists.
use Rattle.std.proofs.Common.{◌≡◌, ℕ, true, false, map, nat_eq, List, [], ◌∷◌, ◌++◌, Option, Some, None, refl, sym, ap, ◌∙◌, subst}
use Rattle.std.specs.Prelude.{codes}
use Rattle.std.specs.Char.{to_ascii_lowercase}
use Rattle.std.specs.Cmp.Lexicographic.{pointwise}
use Rattle.std.specs.List.{list_any}
use Rattle.std.proofs.lemmas.Bool.{cond-true, cond-false, or_parts}
use Rattle.std.proofs.lemmas.Slice.Eq.{bytes_eq-Decides}
use Rattle.bdb_base.specs.declared.kinds.Cmp.{Cmp}
use Rattle.bdb_base.specs.declared.kinds.Cmp.TheVariants as signs
use Rattle.bdb_lex.specs.declared.token.Token.{Token}
use Rattle.bdb_lex.specs.declared.token.Token.TheVariants.{Word, Text, Num, Comma, Dot}
use Rattle.bdb_syntax.specs.Keywords.{is_keyword, is_reserved}
use Rattle.bdb_parse.specs.declared.stop.Stop.{Stop}
use Rattle.bdb_parse.specs.declared.stop.Stop.TheVariants as stops
use Rattle.bdb_parse.specs.Stops.{is_stop, cut, parts}
use Rattle.bdb_parse.specs.Grammar.{◌▸◌, IsToken, IsKeyword, IsName, AreSeparated, cmp_token}
use Rattle.bdb_parse.specs.Reading.{◌>>=◌, end_at, word_at, cmp_at, keyword_at, name_at, all_of, list_of}
use Rattle.bdb_parse.proofs.CutLemmas.{parts_after, parts_cut, cut_head_stop, cut_head_other}

pub bind_some : {X Y : Type 0} (o : Option X) (x : X) (k : X → Option Y) → o ≡ Some x → (o >>= k) ≡ k x
bind_some {X} o x k e = ap (λ (p : Option X). p >>= k) e

-- one token in front
pub head_is : (ts front rest : List Token) (t : Token) → ts ≡ front ++ rest → front ≡ t ∷ [] → ts ≡ t ∷ rest
head_is ts front rest t e f = e ∙ ap (λ (r : List Token). r ++ rest) f

pub end_takes : (ts : List Token) → ts ≡ [] → end_at ts ≡ Some []
end_takes ts e = ap end_at e

pub word_takes : (keyword : List ℕ) (Q : List Token → Type 0) (ts : List Token) → (h : (IsKeyword keyword ▸ Q) ts) → word_at ts ≡ Some (h.3.0, h.1)
word_takes keyword Q ts h = ap word_at (head_is ts h.0 h.1 (Word h.3.0) h.2 h.3.1)

pub keyword_takes : (keyword : List ℕ) (Q : List Token → Type 0) (ts : List Token) → (h : (IsKeyword keyword ▸ Q) ts) → keyword_at keyword ts ≡ Some h.1
unfolding keyword_at
keyword_takes keyword Q ts h =
    ap (keyword_at keyword) (head_is ts h.0 h.1 (Word h.3.0) h.2 h.3.1) ∙ cond-true (is_keyword keyword h.3.0) (Some h.1) None h.3.2

pub name_takes_word : (w : List ℕ) (rest : List Token) → is_reserved w ≡ false → name_at (Word w ∷ rest) ≡ Some (w, rest)
unfolding name_at
name_takes_word w rest e = cond-false (is_reserved w) None (Some (w, rest)) e

pub name_takes : (name : List ℕ) (Q : List Token → Type 0) (ts : List Token) → (h : (IsName name ▸ Q) ts) → name_at ts ≡ Some (name, h.1)
name_takes name Q ts h =
    ap name_at (head_is ts h.0 h.1 (Word name) h.2 h.3.0) ∙ name_takes_word name h.1 h.3.1

any_head : (x : List ℕ) (xs : List (List ℕ)) (w : List ℕ) → list_any (λ k. is_keyword k w) (x ∷ xs) ≡ false → is_keyword x w ≡ false
any_head x xs w e = (or_parts (is_keyword x w) (list_any (λ k. is_keyword k w) xs) e).0

any_tail : (x : List ℕ) (xs : List (List ℕ)) (w : List ℕ) → list_any (λ k. is_keyword k w) (x ∷ xs) ≡ false → list_any (λ k. is_keyword k w) xs ≡ false
any_tail x xs w e = (or_parts (is_keyword x w) (list_any (λ k. is_keyword k w) xs) e).1

-- the reserved words behind each of them
abbrev after_where : List (List ℕ)
after_where = []

abbrev after_values : List (List ℕ)
after_values = codes "where" ∷ after_where

abbrev after_update : List (List ℕ)
after_update = codes "values" ∷ after_values

abbrev after_set : List (List ℕ)
after_set = codes "update" ∷ after_update

abbrev after_select : List (List ℕ)
after_select = codes "set" ∷ after_set

abbrev after_or : List (List ℕ)
after_or = codes "select" ∷ after_select

abbrev after_not : List (List ℕ)
after_not = codes "or" ∷ after_or

abbrev after_into : List (List ℕ)
after_into = codes "not" ∷ after_not

abbrev after_insert : List (List ℕ)
after_insert = codes "into" ∷ after_into

abbrev after_from : List (List ℕ)
after_from = codes "insert" ∷ after_insert

abbrev after_delete : List (List ℕ)
after_delete = codes "from" ∷ after_from

abbrev after_belief : List (List ℕ)
after_belief = codes "delete" ∷ after_delete

abbrev after_as : List (List ℕ)
after_as = codes "belief" ∷ after_belief

abbrev after_and : List (List ℕ)
after_and = codes "as" ∷ after_as

behind_and : (w : List ℕ) → is_reserved w ≡ false → list_any (λ k. is_keyword k w) after_and ≡ false
behind_and w e = any_tail (codes "and") after_and w e

behind_as : (w : List ℕ) → is_reserved w ≡ false → list_any (λ k. is_keyword k w) after_as ≡ false
behind_as w e = any_tail (codes "as") after_as w (behind_and w e)

behind_belief : (w : List ℕ) → is_reserved w ≡ false → list_any (λ k. is_keyword k w) after_belief ≡ false
behind_belief w e = any_tail (codes "belief") after_belief w (behind_as w e)

behind_delete : (w : List ℕ) → is_reserved w ≡ false → list_any (λ k. is_keyword k w) after_delete ≡ false
behind_delete w e = any_tail (codes "delete") after_delete w (behind_belief w e)

behind_from : (w : List ℕ) → is_reserved w ≡ false → list_any (λ k. is_keyword k w) after_from ≡ false
behind_from w e = any_tail (codes "from") after_from w (behind_delete w e)

behind_insert : (w : List ℕ) → is_reserved w ≡ false → list_any (λ k. is_keyword k w) after_insert ≡ false
behind_insert w e = any_tail (codes "insert") after_insert w (behind_from w e)

behind_into : (w : List ℕ) → is_reserved w ≡ false → list_any (λ k. is_keyword k w) after_into ≡ false
behind_into w e = any_tail (codes "into") after_into w (behind_insert w e)

behind_not : (w : List ℕ) → is_reserved w ≡ false → list_any (λ k. is_keyword k w) after_not ≡ false
behind_not w e = any_tail (codes "not") after_not w (behind_into w e)

behind_or : (w : List ℕ) → is_reserved w ≡ false → list_any (λ k. is_keyword k w) after_or ≡ false
behind_or w e = any_tail (codes "or") after_or w (behind_not w e)

behind_select : (w : List ℕ) → is_reserved w ≡ false → list_any (λ k. is_keyword k w) after_select ≡ false
behind_select w e = any_tail (codes "select") after_select w (behind_or w e)

behind_set : (w : List ℕ) → is_reserved w ≡ false → list_any (λ k. is_keyword k w) after_set ≡ false
behind_set w e = any_tail (codes "set") after_set w (behind_select w e)

behind_update : (w : List ℕ) → is_reserved w ≡ false → list_any (λ k. is_keyword k w) after_update ≡ false
behind_update w e = any_tail (codes "update") after_update w (behind_set w e)

behind_values : (w : List ℕ) → is_reserved w ≡ false → list_any (λ k. is_keyword k w) after_values ≡ false
behind_values w e = any_tail (codes "values") after_values w (behind_update w e)

behind_where : (w : List ℕ) → is_reserved w ≡ false → list_any (λ k. is_keyword k w) after_where ≡ false
behind_where w e = any_tail (codes "where") after_where w (behind_values w e)

pub name_is_not_and : (w : List ℕ) → is_reserved w ≡ false → is_keyword (codes "and") w ≡ false
name_is_not_and w e = any_head (codes "and") after_and w e

pub name_is_not_as : (w : List ℕ) → is_reserved w ≡ false → is_keyword (codes "as") w ≡ false
name_is_not_as w e = any_head (codes "as") after_as w (behind_and w e)

pub name_is_not_belief : (w : List ℕ) → is_reserved w ≡ false → is_keyword (codes "belief") w ≡ false
name_is_not_belief w e = any_head (codes "belief") after_belief w (behind_as w e)

pub name_is_not_from : (w : List ℕ) → is_reserved w ≡ false → is_keyword (codes "from") w ≡ false
name_is_not_from w e = any_head (codes "from") after_from w (behind_delete w e)

pub name_is_not_not : (w : List ℕ) → is_reserved w ≡ false → is_keyword (codes "not") w ≡ false
name_is_not_not w e = any_head (codes "not") after_not w (behind_into w e)

pub name_is_not_where : (w : List ℕ) → is_reserved w ≡ false → is_keyword (codes "where") w ≡ false
name_is_not_where w e = any_head (codes "where") after_where w (behind_values w e)

-- a word that is one keyword is no other
pub other_keyword : (k l w : List ℕ) → is_keyword k w ≡ true → pointwise nat_eq (map to_ascii_lowercase k) (map to_ascii_lowercase l) ≡ false → is_keyword l w ≡ false
other_keyword k l w e f =
    let same = (bytes_eq-Decides (map to_ascii_lowercase w) (map to_ascii_lowercase k)).0 e in
    ap (λ (bytes : List ℕ). pointwise nat_eq bytes (map to_ascii_lowercase l)) same ∙ f

-- no token of these is the stop
abbrev pub Free : Stop → List Token → Type 0
Free stop [] = Unit {0}
Free stop (t ∷ ts) = (is_stop stop t ≡ false) × Free stop ts

pub free_append : (stop : Stop) (xs ys : List Token) → Free stop xs → Free stop ys → Free stop (xs ++ ys)
free_append stop [] ys f g = g
free_append stop (x ∷ xs) ys f g = (f.0, free_append stop xs ys f.1 g)

pub free_one : (stop : Stop) (t : Token) (ts : List Token) → ts ≡ t ∷ [] → is_stop stop t ≡ false → Free stop ts
free_one stop t ts e f = subst (Free stop) (sym e) (f, tt)

pub free_seq : (P Q : List Token → Type 0) (stop : Stop) → ((ts : List Token) → P ts → Free stop ts) → ((ts : List Token) → Q ts → Free stop ts) → (ts : List Token) → (P ▸ Q) ts → Free stop ts
free_seq P Q stop f g ts h =
    subst (Free stop) (sym h.2) (free_append stop h.0 h.1 (f h.0 h.3) (g h.1 h.4))

pub cut_free : (stop : Stop) (ts : List Token) → Free stop ts → cut stop ts ≡ (ts, None)
cut_free stop [] f = refl
cut_free stop (t ∷ ts) f =
    cut_head_other stop t ts f.0 ∙ ap (λ (c : List Token × Option (List Token)). (t ∷ c.0, c.1)) (cut_free stop ts f.1)

pub cut_at : (stop : Stop) (ts : List Token) (t : Token) (rest : List Token) → Free stop ts → is_stop stop t ≡ true → cut stop (ts ++ t ∷ rest) ≡ (ts, Some rest)
cut_at stop [] t rest f s = cut_head_stop stop t rest s
cut_at stop (a ∷ ts) t rest f s =
    cut_head_other stop a (ts ++ t ∷ rest) f.0 ∙ ap (λ (c : List Token × Option (List Token)). (a ∷ c.0, c.1)) (cut_at stop ts t rest f.1 s)

pub name_free : (name : List ℕ) (stop : Stop) (ts : List Token) → IsName name ts → Free stop ts
name_free name stops.Comma ts h = free_one stops.Comma (Word name) ts h.0 refl
name_free name stops.Close ts h = free_one stops.Close (Word name) ts h.0 refl
name_free name stops.And ts h =
    free_one stops.And (Word name) ts h.0 (name_is_not_and name h.1)
name_free name stops.From ts h =
    free_one stops.From (Word name) ts h.0 (name_is_not_from name h.1)
name_free name stops.Where ts h =
    free_one stops.Where (Word name) ts h.0 (name_is_not_where name h.1)

-- a keyword is none of those that end a part
abbrev pub IsNoStop : List ℕ → Type 0
IsNoStop k =
    (pointwise nat_eq (map to_ascii_lowercase k) (map to_ascii_lowercase (codes "and")) ≡ false)
    × (pointwise nat_eq (map to_ascii_lowercase k) (map to_ascii_lowercase (codes "from")) ≡ false)
    × (pointwise nat_eq (map to_ascii_lowercase k) (map to_ascii_lowercase (codes "where")) ≡ false)

pub keyword_free : (k : List ℕ) → IsNoStop k → (stop : Stop) (ts : List Token) → IsKeyword k ts → Free stop ts
keyword_free k n stops.Comma ts h = free_one stops.Comma (Word h.0) ts h.1 refl
keyword_free k n stops.Close ts h = free_one stops.Close (Word h.0) ts h.1 refl
keyword_free k n stops.And ts h =
    free_one stops.And (Word h.0) ts h.1 (other_keyword k (codes "and") h.0 h.2 n.0)
keyword_free k n stops.From ts h =
    free_one stops.From (Word h.0) ts h.1 (other_keyword k (codes "from") h.0 h.2 n.1)
keyword_free k n stops.Where ts h =
    free_one stops.Where (Word h.0) ts h.1 (other_keyword k (codes "where") h.0 h.2 n.2)

pub text_free : (t : List ℕ) (stop : Stop) (ts : List Token) → IsToken (Text t) ts → Free stop ts
text_free t stops.Comma ts e = free_one stops.Comma (Text t) ts e refl
text_free t stops.Close ts e = free_one stops.Close (Text t) ts e refl
text_free t stops.And ts e = free_one stops.And (Text t) ts e refl
text_free t stops.From ts e = free_one stops.From (Text t) ts e refl
text_free t stops.Where ts e = free_one stops.Where (Text t) ts e refl

pub num_free : (s : List ℕ) (stop : Stop) (ts : List Token) → IsToken (Num s) ts → Free stop ts
num_free s stops.Comma ts e = free_one stops.Comma (Num s) ts e refl
num_free s stops.Close ts e = free_one stops.Close (Num s) ts e refl
num_free s stops.And ts e = free_one stops.And (Num s) ts e refl
num_free s stops.From ts e = free_one stops.From (Num s) ts e refl
num_free s stops.Where ts e = free_one stops.Where (Num s) ts e refl

pub dot_free : (stop : Stop) (ts : List Token) → IsToken Dot ts → Free stop ts
dot_free stops.Comma ts e = free_one stops.Comma Dot ts e refl
dot_free stops.Close ts e = free_one stops.Close Dot ts e refl
dot_free stops.And ts e = free_one stops.And Dot ts e refl
dot_free stops.From ts e = free_one stops.From Dot ts e refl
dot_free stops.Where ts e = free_one stops.Where Dot ts e refl

cmp_is_no_stop : (c : Cmp) (stop : Stop) → is_stop stop (cmp_token c) ≡ false
cmp_is_no_stop signs.Eq stops.Comma = refl
cmp_is_no_stop signs.Eq stops.Close = refl
cmp_is_no_stop signs.Eq stops.And = refl
cmp_is_no_stop signs.Eq stops.From = refl
cmp_is_no_stop signs.Eq stops.Where = refl
cmp_is_no_stop signs.Ne stops.Comma = refl
cmp_is_no_stop signs.Ne stops.Close = refl
cmp_is_no_stop signs.Ne stops.And = refl
cmp_is_no_stop signs.Ne stops.From = refl
cmp_is_no_stop signs.Ne stops.Where = refl
cmp_is_no_stop signs.Lt stops.Comma = refl
cmp_is_no_stop signs.Lt stops.Close = refl
cmp_is_no_stop signs.Lt stops.And = refl
cmp_is_no_stop signs.Lt stops.From = refl
cmp_is_no_stop signs.Lt stops.Where = refl
cmp_is_no_stop signs.Le stops.Comma = refl
cmp_is_no_stop signs.Le stops.Close = refl
cmp_is_no_stop signs.Le stops.And = refl
cmp_is_no_stop signs.Le stops.From = refl
cmp_is_no_stop signs.Le stops.Where = refl
cmp_is_no_stop signs.Gt stops.Comma = refl
cmp_is_no_stop signs.Gt stops.Close = refl
cmp_is_no_stop signs.Gt stops.And = refl
cmp_is_no_stop signs.Gt stops.From = refl
cmp_is_no_stop signs.Gt stops.Where = refl
cmp_is_no_stop signs.Ge stops.Comma = refl
cmp_is_no_stop signs.Ge stops.Close = refl
cmp_is_no_stop signs.Ge stops.And = refl
cmp_is_no_stop signs.Ge stops.From = refl
cmp_is_no_stop signs.Ge stops.Where = refl

pub cmp_free : (c : Cmp) (stop : Stop) (ts : List Token) → IsToken (cmp_token c) ts → Free stop ts
cmp_free c stop ts e = free_one stop (cmp_token c) ts e (cmp_is_no_stop c stop)

pub cmp_takes : (c : Cmp) (rest : List Token) → cmp_at (cmp_token c ∷ rest) ≡ Some (c, rest)
cmp_takes signs.Eq rest = refl
cmp_takes signs.Ne rest = refl
cmp_takes signs.Lt rest = refl
cmp_takes signs.Le rest = refl
cmp_takes signs.Gt rest = refl
cmp_takes signs.Ge rest = refl

pub separated_free : {X : Type 0} (P : X → List Token → Type 0) (S : List Token → Type 0) (stop : Stop) → ((x : X) (ts : List Token) → P x ts → Free stop ts) → ((ts : List Token) → S ts → Free stop ts) → (xs : List X) (ts : List Token) → AreSeparated P S xs ts → Free stop ts
separated_free P S stop f g [] ts h = absurd h
separated_free P S stop f g (x ∷ []) ts h = f x ts h
separated_free P S stop f g (x ∷ y ∷ xs) ts h =
    free_seq (P x) (S ▸ AreSeparated P S (y ∷ xs)) stop (f x) (free_seq S (AreSeparated P S (y ∷ xs)) stop g (separated_free P S stop f g (y ∷ xs))) ts h

parts_free : (stop : Stop) (ts : List Token) → Free stop ts → parts stop ts ≡ ts ∷ []
parts_free stop ts f =
    parts_cut stop ts ∙ ap (λ (c : List Token × Option (List Token)). c.0 ∷ parts_after stop c.1) (cut_free stop ts f)

parts_at : (stop : Stop) (ts : List Token) (t : Token) (rest : List Token) → Free stop ts → is_stop stop t ≡ true → parts stop (ts ++ t ∷ rest) ≡ ts ∷ parts stop rest
parts_at stop ts t rest f s =
    parts_cut stop (ts ++ t ∷ rest) ∙ ap (λ (c : List Token × Option (List Token)). c.0 ∷ parts_after stop c.1) (cut_at stop ts t rest f s)

all_takes : {X : Type 0} (P : X → List Token → Type 0) (S : List Token → Type 0) (read : List Token → Option X) (stop : Stop) → ((x : X) (ts : List Token) → P x ts → read ts ≡ Some x) → ((x : X) (ts : List Token) → P x ts → Free stop ts) → ((ts : List Token) → S ts → (t : Token) × (ts ≡ t ∷ []) × (is_stop stop t ≡ true)) → (xs : List X) (ts : List Token) → AreSeparated P S xs ts → all_of read (parts stop ts) ≡ Some xs
all_takes P S read stop r f s [] ts h = absurd h
all_takes P S read stop r f s (x ∷ []) ts h =
    ap (all_of read) (parts_free stop ts (f x ts h)) ∙ bind_some (read ts) x (λ y. Some (y ∷ [])) (r x ts h)
all_takes {X} P S read stop r f s (x ∷ y ∷ xs) ts h =
    let i = h.4 in
    let t = s i.0 i.3 in
    let whole : ts ≡ h.0 ++ t.0 ∷ i.1 = h.2 ∙ ap (λ (q : List Token). h.0 ++ q) (head_is h.1 i.0 i.1 t.0 i.2 t.1) in
    let rest : Option (List X) = all_of read (parts stop i.1) in
    ap (λ (q : List Token). all_of read (parts stop q)) whole
    ∙ (ap (all_of read) (parts_at stop h.0 t.0 i.1 (f x h.0 h.3) t.2)
    ∙ (bind_some (read h.0) x (λ z. rest >>= λ zs. Some (z ∷ zs)) (r x h.0 h.3)
    ∙ bind_some rest (y ∷ xs) (λ zs. Some (x ∷ zs)) (all_takes P S read stop r f s (y ∷ xs) i.1 i.4)))

pub list_takes : {X : Type 0} (P : X → List Token → Type 0) (S : List Token → Type 0) (read : List Token → Option X) (stop : Stop) → ((x : X) (ts : List Token) → P x ts → read ts ≡ Some x) → ((x : X) (ts : List Token) → P x ts → Free stop ts) → ((ts : List Token) → S ts → (t : Token) × (ts ≡ t ∷ []) × (is_stop stop t ≡ true)) → (xs : List X) (ts : List Token) → AreSeparated P S xs ts → list_of read stop ts ≡ Some xs
unfolding list_of
list_takes P S read stop r f s xs ts h = all_takes P S read stop r f s xs ts h

pub comma_stops : (ts : List Token) → IsToken Comma ts → (t : Token) × (ts ≡ t ∷ []) × (is_stop stops.Comma t ≡ true)
comma_stops ts e = (Comma, e, refl)

pub and_stops : (ts : List Token) → IsKeyword (codes "and") ts → (t : Token) × (ts ≡ t ∷ []) × (is_stop stops.And t ≡ true)
and_stops ts h = (Word h.0, h.1, h.2)

pub comma_free : (stop : Stop) → is_stop stop Comma ≡ false → (ts : List Token) → IsToken Comma ts → Free stop ts
comma_free stop e ts f = free_one stop Comma ts f e
