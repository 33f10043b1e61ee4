-- Lists of tokens with separators, cut into their parts again.
use Rattle.std.proofs.Common.{◌≡◌, Bool, true, false, not, List, [], ◌∷◌, ◌++◌, map, Option, Some, None, refl, ap, ◌∙◌}
use Rattle.std.specs.List.{list_all, flat_map, AllByRecursion}
use Rattle.std.proofs.lemmas.Bool.{false≢true, and_parts, and_from, cond-true, cond-false, not-true}
use Rattle.bdb_lex.specs.declared.token.Token.{Token}
use Rattle.bdb_parse.specs.declared.stop.Stop.{Stop}
use Rattle.bdb_parse.specs.Stops.{is_stop, cut, parts, with_first}
use Rattle.bdb_parse.specs.Reading.{◌>>=◌, all_of, list_of}
use Rattle.bdb_syntax.specs.Filled.{is_filled}
use Rattle.bdb_parse.proofs.PrintedTokens.{parted}

-- no token is this stop
abbrev pub is_clear : Stop → List Token → Bool
is_clear stop ts = list_all (λ t. not (is_stop stop t)) ts

-- no token is a stop
abbrev pub IsClear : List Token → Type 0
IsClear ts = (stop : Stop) → is_clear stop ts ≡ true

pub clear_append : (stop : Stop) (a b : List Token) → is_clear stop a ≡ true → is_clear stop b ≡ true → is_clear stop (a ++ b) ≡ true
clear_append stop [] b h k = k
clear_append stop (t ∷ a) b h k =
    let p = and_parts (not (is_stop stop t)) (is_clear stop a) h in and_from (not (is_stop stop t)) (is_clear stop (a ++ b)) p.0 (clear_append stop a b p.1 k)

pub cut_clear : (stop : Stop) (a : List Token) → is_clear stop a ≡ true → cut stop a ≡ (a, None)
cut_clear stop [] h = refl
cut_clear stop (t ∷ a) h =
    let p = and_parts (not (is_stop stop t)) (is_clear stop a) h in
    cond-false (is_stop stop t) _ _ (not-true (is_stop stop t) p.0) ∙ ap (λ (c : List Token × Option (List Token)). (t ∷ c.0, c.1)) (cut_clear stop a p.1)

pub cut_stop : (stop : Stop) (a : List Token) (t : Token) (rest : List Token) → is_clear stop a ≡ true → is_stop stop t ≡ true → cut stop (a ++ t ∷ rest) ≡ (a, Some rest)
cut_stop stop [] t rest h s = cond-true (is_stop stop t) _ _ s
cut_stop stop (x ∷ a) t rest h s =
    let p = and_parts (not (is_stop stop x)) (is_clear stop a) h in
    cond-false (is_stop stop x) _ _ (not-true (is_stop stop x) p.0) ∙ ap (λ (c : List Token × Option (List Token)). (x ∷ c.0, c.1)) (cut_stop stop a t rest p.1 s)

parts_clear : (stop : Stop) (a : List Token) → is_clear stop a ≡ true → parts stop a ≡ a ∷ []
parts_clear stop [] h = refl
parts_clear stop (t ∷ a) h =
    let p = and_parts (not (is_stop stop t)) (is_clear stop a) h in
    cond-false (is_stop stop t) _ _ (not-true (is_stop stop t) p.0) ∙ ap (with_first t) (parts_clear stop a p.1)

parts_stop : (stop : Stop) (a : List Token) (t : Token) (rest : List Token) → is_clear stop a ≡ true → is_stop stop t ≡ true → parts stop (a ++ t ∷ rest) ≡ a ∷ parts stop rest
parts_stop stop [] t rest h s = cond-true (is_stop stop t) _ _ s
parts_stop stop (x ∷ a) t rest h s =
    let p = and_parts (not (is_stop stop x)) (is_clear stop a) h in
    cond-false (is_stop stop x) _ _ (not-true (is_stop stop x) p.0) ∙ ap (with_first x) (parts_stop stop a t rest p.1 s)

parts_parted : {X : Type 0} (stop : Stop) (t : Token) → is_stop stop t ≡ true → (g : X → List Token) (P : X → Type 0) → ((x : X) → P x → IsClear (g x))
    → (x : X) (xs : List X) → P x → AllByRecursion P xs → parts stop (parted t (map g (x ∷ xs))) ≡ map g (x ∷ xs)
parts_parted stop t s g P clear x [] h k = ap (parts stop) (append_nil_here (g x)) ∙ parts_clear stop (g x) (clear x h stop)
  where
    append_nil_here : (a : List Token) → a ++ [] ≡ a
    append_nil_here [] = refl
    append_nil_here (y ∷ a) = ap (λ b. y ∷ b) (append_nil_here a)
parts_parted stop t s g P clear x (y ∷ xs) h k =
    parts_stop stop (g x) t (parted t (map g (y ∷ xs))) (clear x h stop) s ∙ ap (λ ps. g x ∷ ps) (parts_parted stop t s g P clear y xs k.0 k.1)

all_of_map : {X : Type 0} (read : List Token → Option X) (g : X → List Token) (P : X → Type 0) → ((x : X) → P x → read (g x) ≡ Some x)
    → (xs : List X) → AllByRecursion P xs → all_of read (map g xs) ≡ Some xs
all_of_map read g P each [] h = refl
all_of_map read g P each (x ∷ xs) h =
    ap (λ o. o >>= λ y. all_of read (map g xs) >>= λ ys. Some (y ∷ ys)) (each x h.0)
    ∙ ap (λ o. o >>= λ ys. Some (x ∷ ys)) (all_of_map read g P each xs h.1)

-- a list that isn't empty is read from its tokens
pub list_parses : {X : Type 0} (read : List Token → Option X) (stop : Stop) (t : Token) → is_stop stop t ≡ true → (g : X → List Token) (P : X → Type 0)
    → ((x : X) → P x → IsClear (g x)) → ((x : X) → P x → read (g x) ≡ Some x)
    → (xs : List X) → is_filled xs ≡ true → AllByRecursion P xs → list_of read stop (parted t (map g xs)) ≡ Some xs
unfolding list_of
list_parses read stop t s g P clear each [] f h = absurd (false≢true f)
list_parses read stop t s g P clear each (x ∷ xs) f h =
    ap (all_of read) (parts_parted stop t s g P clear x xs h.0 h.1) ∙ all_of_map read g P each (x ∷ xs) h

later_clear : {X : Type 0} (stop : Stop) (t : Token) → is_stop stop t ≡ false → (g : X → List Token) (P : X → Type 0) → ((x : X) → P x → IsClear (g x))
    → (xs : List X) → AllByRecursion P xs → is_clear stop (flat_map (λ ts. t ∷ ts) (map g xs)) ≡ true
later_clear stop t s g P clear [] h = refl
later_clear stop t s g P clear (x ∷ xs) h =
    and_from (not (is_stop stop t)) _ (ap not s) (clear_append stop (g x) (flat_map (λ ts. t ∷ ts) (map g xs)) (clear x h.0 stop) (later_clear stop t s g P clear xs h.1))

-- what stands between separators holds no other stop
pub parted_clear : {X : Type 0} (stop : Stop) (t : Token) → is_stop stop t ≡ false → (g : X → List Token) (P : X → Type 0) → ((x : X) → P x → IsClear (g x))
    → (xs : List X) → AllByRecursion P xs → is_clear stop (parted t (map g xs)) ≡ true
parted_clear stop t s g P clear [] h = refl
parted_clear stop t s g P clear (x ∷ xs) h = clear_append stop (g x) (flat_map (λ ts. t ∷ ts) (map g xs)) (clear x h.0 stop) (later_clear stop t s g P clear xs h.1)
