-- Words that begin with one word ask for what no other word asks for.
use Rattle.std.proofs.Common.{◌≡◌, ◌∙◌, ℕ, Bool, true, false, ◌&&◌, List, [], ◌∷◌, Option, Some, None, cond, codes, refl, ap}
use Rattle.std.specs.Option.{option_map}
use Rattle.bdb_base.specs.Same.{same_text}
use Rattle.bdb_base.specs.SameLemmas.{same_text-Decides}
use Rattle.bdb_top.specs.declared.words.Job.{Job}
use Rattle.bdb_top.specs.declared.words.Job.TheVariants.{Check}
use Rattle.bdb_top.specs.Words.{Files, check_job, files, files_by, files_of, files_with, is_value, many_job, run_job}

other_word : (a b word : List ℕ) → same_text a b ≡ false → same_text word a ≡ true → same_text word b ≡ false
other_word a b word apart h = ap (λ w. same_text w b) ((same_text-Decides word a).0 h) ∙ apart

no_files : (f : Files) → None ≡ Some f → ⊥
no_files f e = cc

-- where the first test holds the second doesn't
alone : {X : Type 0} (x y : Bool) (a : Option Files) (b : Option X) (f : Files) → (x ≡ true → y ≡ false) → cond x a None ≡ Some f → cond y b None ≡ None
alone true y a b f h e = ap (λ t. cond t b None) (h refl)
alone false y a b f h e = absurd (no_files f e)

-- words that name files behind one word name none behind another
pub others_alone : (a b : List ℕ) → same_text a b ≡ false → (words : List (List ℕ)) (f : Files) → files_of a words ≡ Some f → files_of b words ≡ None
others_alone a b apart [] f h = refl
others_alone a b apart (word ∷ []) f h = alone (same_text word a) (same_text word b) (files None None) (files None None) f (other_word a b word apart) h
others_alone a b apart (word ∷ option ∷ []) f h = refl
others_alone a b apart (word ∷ option ∷ value ∷ []) f h = alone (same_text word a) (same_text word b) (files_with option value) (files_with option value) f (other_word a b word apart) h
others_alone a b apart (word ∷ x ∷ y ∷ z ∷ []) f h = refl
others_alone a b apart (word ∷ first ∷ x ∷ second ∷ y ∷ []) f h = alone (same_text word a) (same_text word b) (files_by first x second y) (files_by first x second y) f (other_word a b word apart) h
others_alone a b apart (word ∷ x ∷ y ∷ z ∷ u ∷ v ∷ rest) f h = refl

check_by : (x y : Bool) (test : Bool) (a : Option Files) (b : Option Job) (f : Files) → (x ≡ true → y ≡ false) → cond x a None ≡ Some f → cond (y && test) b None ≡ None
check_by true y test a b f h e = ap (λ t. cond (t && test) b None) (h refl)
check_by false y test a b f h e = absurd (no_files f e)

-- nor do they ask to check a file
pub check_alone : (a : List ℕ) → same_text a (codes "check") ≡ false → (words : List (List ℕ)) (f : Files) → files_of a words ≡ Some f → check_job words ≡ None
check_alone a apart [] f h = refl
check_alone a apart (word ∷ []) f h = refl
check_alone a apart (word ∷ option ∷ []) f h = refl
check_alone a apart (word ∷ option ∷ value ∷ []) f h =
    check_by (same_text word a) (same_text word (codes "check")) (same_text option (codes "--db") && is_value value) (files_with option value) (Some (Check value)) f (other_word a (codes "check") word apart) h
check_alone a apart (word ∷ option ∷ value ∷ more ∷ rest) f h = refl

no_job : (job : Job) → None ≡ Some job → ⊥
no_job job e = cc

-- the files of a job that words name
some_files : (o : Option Files) (g : Files → Job) (job : Job) → option_map g o ≡ Some job → (f : Files) × (o ≡ Some f)
some_files None g job h = absurd (no_job job h)
some_files (Some f) g job h = (f, refl)

pub runs_alone : (words : List (List ℕ)) (job : Job) → run_job words ≡ Some job → check_job words ≡ None
runs_alone words job h = let named = some_files (files_of (codes "run") words) _ job h in check_alone (codes "run") refl words named.0 named.1

pub many_alone : (words : List (List ℕ)) (job : Job) → run_job words ≡ Some job → many_job words ≡ None
many_alone words job h =
    let named = some_files (files_of (codes "run") words) _ job h in
    ap (option_map _) (others_alone (codes "run") (codes "many") refl words named.0 named.1)

pub streams_alone : (words : List (List ℕ)) (job : Job) → many_job words ≡ Some job → check_job words ≡ None
streams_alone words job h = let named = some_files (files_of (codes "many") words) _ job h in check_alone (codes "many") refl words named.0 named.1
