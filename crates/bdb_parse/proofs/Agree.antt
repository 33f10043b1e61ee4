-- Three readings of the same tokens: with a number outside i64 refused, with 0 for it, and with any number.
use Rattle.std.proofs.Common.{◌≡◌, Bool, true, false, ◌&&◌, cond, Option, Some, None, IsSomeAnd, Result, Err, refl, sym, ap, ◌∙◌, subst}
use Rattle.std.specs.Option.{option_map}
use Rattle.std.proofs.lemmas.Bool.{and_from, and_left}
use Rattle.bdb_parse.specs.declared.error.ParseError.{ParseError}
use Rattle.bdb_parse.specs.declared.error.ParseError.TheVariants.{Syntax, Number}
use Rattle.bdb_parse.specs.Gives.{Fails}
use Rattle.bdb_parse.specs.Reading.{◌>>=◌}

-- nothing is read by any; or the same, which passes the test; or what fails it, which the first refuses
pub data Agrees {X : Type 0} (f : X → Bool) : Option X → Option X → Option X → Type 0 where
  neither : Agrees f None None None
  fitting : (x y : X) → f x ≡ true → Agrees f (Some x) (Some y) (Some x)
  wide : (x y : X) → f x ≡ false → Agrees f None (Some y) (Some x)

-- what doesn't depend on the reading, and passes the test
pub agrees_made : {X Y : Type 0} (f : Y → Bool) (h : X → Y) (o : Option X) → ((x : X) → f (h x) ≡ true) → Agrees f (option_map h o) (option_map h o) (option_map h o)
agrees_made f h None e = neither
agrees_made f h (Some x) e = fitting (h x) (h x) (e x)

-- readings behind something that doesn't depend on the reading
pub agrees_behind : {X Y : Type 0} (f : Y → Bool) (o : Option X) {k l m : X → Option Y} → ((x : X) → Agrees f (k x) (l x) (m x)) → Agrees f (o >>= k) (o >>= l) (o >>= m)
agrees_behind f None h = neither
agrees_behind f (Some x) h = h x

pub agrees_cond : {X : Type 0} (f : X → Bool) (b : Bool) {k l m p q r : Option X} → Agrees f k l m → Agrees f p q r → Agrees f (cond b k p) (cond b l q) (cond b m r)
agrees_cond f true h i = h
agrees_cond f false h i = i

pub agrees_map : {X Y : Type 0} (f : X → Bool) (g : Y → Bool) (h : X → Y) {s l a : Option X} → ((x : X) → g (h x) ≡ f x) → Agrees f s l a → Agrees g (option_map h s) (option_map h l) (option_map h a)
agrees_map f g h e neither = neither
agrees_map f g h e (fitting x y t) = fitting (h x) (h y) (e x ∙ t)
agrees_map f g h e (wide x y t) = wide (h x) (h y) (e x ∙ t)

-- the last step of a reading
pub agrees_last : {X Y : Type 0} (f : X → Bool) (g : Y → Bool) (h : X → Y) {s l a : Option X} → ((x : X) → g (h x) ≡ f x) → Agrees f s l a → Agrees g (s >>= λ x. Some (h x)) (l >>= λ x. Some (h x)) (a >>= λ x. Some (h x))
agrees_last f g h e neither = neither
agrees_last f g h e (fitting x y t) = fitting (h x) (h y) (e x ∙ t)
agrees_last f g h e (wide x y t) = wide (h x) (h y) (e x ∙ t)

and_second_fails : (b c : Bool) → b ≡ true → c ≡ false → (b && c) ≡ false
and_second_fails b c p q = ap (λ x. x && c) p ∙ q

-- the last two steps of a reading
pub agrees_two : {X Y Z : Type 0} (f : X → Bool) (g : Y → Bool) (k : Z → Bool) (h : X → Y → Z) {s l a : Option X} {p q r : Option Y} → ((x : X) (y : Y) → k (h x y) ≡ (f x && g y)) → Agrees f s l a → Agrees g p q r → Agrees k (s >>= λ x. p >>= λ y. Some (h x y)) (l >>= λ x. q >>= λ y. Some (h x y)) (a >>= λ x. r >>= λ y. Some (h x y))
agrees_two f g k h e neither i = neither
agrees_two f g k h e (fitting x y t) neither = neither
agrees_two f g k h e (fitting x y t) (fitting z w u) =
    fitting (h x z) (h y w) (e x z ∙ and_from _ _ t u)
agrees_two f g k h e (fitting x y t) (wide z w u) =
    wide (h x z) (h y w) (e x z ∙ and_second_fails _ _ t u)
agrees_two f g k h e (wide x y t) neither = neither
agrees_two f g k h e (wide x y t) (fitting z w u) =
    wide (h x z) (h y w) (e x z ∙ and_left _ _ t)
agrees_two f g k h e (wide x y t) (wide z w u) =
    wide (h x z) (h y w) (e x z ∙ and_left _ _ t)

-- what the first reading reads is read with any number
pub strict_reads : {X : Type 0} (f : X → Bool) (s l a : Option X) (x : X) → Agrees f s l a → s ≡ Some x → a ≡ Some x
strict_reads f s l a x neither e = cc
strict_reads f s l a x (fitting y z t) e = e
strict_reads f s l a x (wide y z t) e = cc

-- and it passes the test
pub strict_passes : {X : Type 0} (f : X → Bool) (s l a : Option X) (x : X) → Agrees f s l a → s ≡ Some x → f x ≡ true
strict_passes f s l a x neither e = cc
strict_passes f s l a x (fitting y z t) e = (let same : y ≡ x = cc in ap f (sym same)) ∙ t
strict_passes f s l a x (wide y z t) e = cc

pub nothing_reads : {X : Type 0} (f : X → Bool) (s l a : Option X) → Agrees f s l a → l ≡ None → a ≡ None
nothing_reads f s l a neither e = refl
nothing_reads f s l a (fitting y z t) e = cc
nothing_reads f s l a (wide y z t) e = cc

-- what only the second reading reads is read with any number, and fails the test
pub wide_reads : {X : Type 0} (f : X → Bool) (s l a : Option X) (y : X) → Agrees f s l a → s ≡ None → l ≡ Some y → IsSomeAnd a (λ x. f x ≡ false)
wide_reads f s l a y neither d e = cc
wide_reads f s l a y (fitting x z t) d e = cc
wide_reads f s l a y (wide x z t) d e = t

-- an error of the second reading
pub refused_twice : {X : Type 0} (f : X → Bool) (s l a : Option X) (e : ParseError) → Agrees f s l a → Fails e l → e ≡ Syntax → a ≡ None
refused_twice f s l a e h i q =
    let F : ParseError → Type 0 = λ x. Fails x l in nothing_reads f s l a h (subst F q i)

pub never_number : {X : Type 0} (l : Option X) (e : ParseError) (P : Type 0) → Fails e l → e ≡ Number → P
never_number l e P i q = let F : ParseError → Type 0 = λ x. Fails x l in absurd (subst F q i)

pub refused_once : {X : Type 0} (s : Option X) (e : ParseError) → Fails e s → e ≡ Syntax → s ≡ None
refused_once s e i q = let F : ParseError → Type 0 = λ x. Fails x s in subst F q i

pub nothing_else : (P : Type 0) → Number ≡ Syntax → P
nothing_else P e = cc

pub err_is : {T E : Type 0} (x y : E) → ◌≡◌ {A = Result T E} (Err x) (Err y) → x ≡ y
err_is x y e = cc
