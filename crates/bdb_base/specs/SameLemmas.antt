-- Each test of equality decides equality. These lemmas stand here because laws of traits may cite them here alone.
use Rattle.std.proofs.Common.{◌≡◌, ◌∙◌, ℕ, ◌&&◌, nat_eq, List, refl, ap}
use Rattle.std.specs.Bool.{Decides}
use Rattle.std.specs.Ordering.{int_cmp, is_eq}
use Rattle.std.proofs.lemmas.Bool.Decides.{Decides-eqb, Decides-int_eq, Decides-and, Decides-like}
use Rattle.std.proofs.lemmas.Slice.Eq.{bytes_eq-Decides, slice_eq-Decides}
use Rattle.bdb_base.specs.declared.kinds.Value.{Value}
use Rattle.bdb_base.specs.declared.kinds.Value.TheVariants.{Int, Text}
use Rattle.bdb_base.specs.declared.kinds.Sign.{Sign}
use Rattle.bdb_base.specs.declared.kinds.Sign.TheVariants.{Plus, Minus}
use Rattle.bdb_base.specs.declared.kinds.Kind.{Kind}
use Rattle.bdb_base.specs.declared.kinds.Kind.TheVariants as kind
use Rattle.bdb_base.specs.declared.kinds.Stmt.{Stmt}
use Rattle.bdb_base.specs.declared.tuple.Tuple.{Tuple}
use Rattle.bdb_base.specs.Same.{same_text, same_path, same_value, same_values, same_tuple, same_sign, same_kind, same_statement, tuple_of}

pub same_text-Decides : (a b : List ℕ) → Decides (same_text a b) (a ≡ b)
same_text-Decides a b = bytes_eq-Decides a b

pub same_path-Decides : (a b : List ℕ) → Decides (same_path a b) (a ≡ b)
same_path-Decides a b = bytes_eq-Decides a b

pub same_value-Decides : (a b : Value) → Decides (same_value a b) (a ≡ b)
same_value-Decides (Int m) (Int n) = Decides-like (is_eq (int_cmp m n)) (λ e. ap Int e) (λ e. cc) (Decides-int_eq m n)
same_value-Decides (Int m) (Text b) = ((λ e. cc), (λ e. cc))
same_value-Decides (Text a) (Int n) = ((λ e. cc), (λ e. cc))
same_value-Decides (Text a) (Text b) = Decides-like (same_text a b) (λ e. ap Text e) (λ e. cc) (same_text-Decides a b)

pub same_values-Decides : (a b : List Value) → Decides (same_values a b) (a ≡ b)
same_values-Decides a b = slice_eq-Decides same_value-Decides a b (same_values a b) refl

pub same_tuple-Decides : (a b : Tuple) → Decides (same_tuple a b) (a ≡ b)
same_tuple-Decides a b = Decides-like (same_tuple a b) (λ e. ap (λ r. tuple_of r a.vals) e.0 ∙ ap (λ v. tuple_of b.rel v) e.1)
    (λ e. (ap (λ t. t.rel) e, ap (λ t. t.vals) e))
    (Decides-and (nat_eq a.rel b.rel) (same_values a.vals b.vals) (Decides-eqb a.rel b.rel) (same_values-Decides a.vals b.vals))

pub same_sign-Decides : (a b : Sign) → Decides (same_sign a b) (a ≡ b)
same_sign-Decides Plus Plus = ((λ e. refl), (λ e. refl))
same_sign-Decides Plus Minus = ((λ e. cc), (λ e. cc))
same_sign-Decides Minus Plus = ((λ e. cc), (λ e. cc))
same_sign-Decides Minus Minus = ((λ e. refl), (λ e. refl))

pub same_kind-Decides : (a b : Kind) → Decides (same_kind a b) (a ≡ b)
same_kind-Decides kind.Int kind.Int = ((λ e. refl), (λ e. refl))
same_kind-Decides kind.Int kind.Text = ((λ e. cc), (λ e. cc))
same_kind-Decides kind.Text kind.Int = ((λ e. cc), (λ e. cc))
same_kind-Decides kind.Text kind.Text = ((λ e. refl), (λ e. refl))

-- a statement of a path, a sign and a tuple
abbrev pub statement_of : List ℕ → Sign → Tuple → Stmt
statement_of w s t = record { path = w; sign = s; tuple = t }

pub same_statement-Decides : (a b : Stmt) → Decides (same_statement a b) (a ≡ b)
same_statement-Decides a b = Decides-like (same_statement a b)
    (λ e. ap (λ w. statement_of w a.sign a.tuple) e.0 ∙ ap (λ s. statement_of b.path s a.tuple) e.1.1 ∙ ap (λ t. statement_of b.path b.sign t) e.1.0)
    (λ e. (ap (λ x. x.path) e, (ap (λ x. x.tuple) e, ap (λ x. x.sign) e)))
    (Decides-and (same_path a.path b.path) (same_tuple a.tuple b.tuple && same_sign a.sign b.sign) (same_path-Decides a.path b.path)
    (Decides-and (same_tuple a.tuple b.tuple) (same_sign a.sign b.sign) (same_tuple-Decides a.tuple b.tuple) (same_sign-Decides a.sign b.sign)))
