-- What is there, and what is not.
use Rattle.std.proofs.Common.{◌≡◌, Option, Some, None, true, false, refl, sym}
use Rattle.std.specs.Option.{is_some, option_map}
use Rattle.std.proofs.lemmas.Bool.{false≢true}

pub some_of : {X : Type 0} (o : Option X) → is_some o ≡ true → (x : X) × (o ≡ Some x)
some_of None e = cc
some_of (Some x) e = (x, refl)

pub none_there : {X : Type 0} (o : Option X) → is_some o ≡ false → o ≡ None
none_there None e = refl
none_there (Some x) e = absurd (false≢true (sym e))

pub none_is_some : {X : Type 0} (x : X) → None ≡ Some x → ⊥
none_is_some x e = cc

pub none_and_some : {X : Type 0} (x : X) (o : Option X) → o ≡ None → o ≡ Some x → ⊥
none_and_some x o a b = cc

pub same_some : {X : Type 0} (x y : X) → Some x ≡ Some y → x ≡ y
same_some x y e = cc

-- only one value is there
pub one_there : {X : Type 0} (x y : X) (o : Option X) → o ≡ Some x → o ≡ Some y → x ≡ y
one_there x y o a b = cc

pub nothing_mapped : {X Y : Type 0} (f : X → Y) (o : Option X) → option_map f o ≡ None → o ≡ None
nothing_mapped f None e = refl
nothing_mapped f (Some x) e = cc

pub some_mapped : {X Y : Type 0} (f : X → Y) (o : Option X) → is_some (option_map f o) ≡ is_some o
some_mapped f None = refl
some_mapped f (Some x) = refl

-- where each has what the other has, they are one
pub same_option : {X : Type 0} (a b : Option X) → ((x : X) → a ≡ Some x → b ≡ Some x) → ((x : X) → b ≡ Some x → a ≡ Some x) → a ≡ b
same_option None None f g = refl
same_option None (Some y) f g = g y refl
same_option (Some x) b f g = sym (f x refl)
