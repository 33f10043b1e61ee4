-- The words of the command line, and the job that they name.
use Rattle.std.specs.Prelude.{ℕ, ◌+◌, ◌-◌, ◌*◌, ◌^◌, Bool, false, not, ◌&&◌, nat_eq, nat_le, nat_lt, List, [], ◌∷◌, length, Option, Some, None, cond, codes}
use Rattle.std.specs.Char.{is_ascii_digit}
use Rattle.std.specs.Option.{option_map}
use Rattle.bdb_base.specs.Limits.{most_generated}
use Rattle.bdb_base.specs.Same.{same_text}
use Rattle.bdb_top.specs.declared.words.Job.{Job}
use Rattle.bdb_top.specs.declared.words.Job.TheVariants.{Run, Many, Check, Gen}

-- an option's value is not empty and does not begin with a dash
abbrev pub is_value : List ℕ → Bool
is_value [] = false
is_value (c ∷ cs) = not (nat_eq c 45)

-- a number with one more digit
abbrev pub with_digit : ℕ → ℕ → ℕ
with_digit n d = n * 10 + (d - 48)

-- the number that digits make behind another; none where one is no digit, or where it isn't below 2^64
abbrev pub number_behind : ℕ → List ℕ → Option ℕ
number_behind n [] = Some n
number_behind n (d ∷ ds) = cond (is_ascii_digit d && nat_lt (with_digit n d) (2 ^ 64)) (number_behind (with_digit n d) ds) None

-- the most digits that a number of the command line has
abbrev pub most_digits : ℕ
most_digits = 20

-- the number below 2^64 that 1 to 20 digits spell
abbrev pub number_in_digits : List ℕ → Option ℕ
number_in_digits digits = cond (nat_lt 0 (length digits) && nat_le (length digits) most_digits) (number_behind 0 digits) None

-- the files that a job names: that of a base, and that of a script
pub record Files : Type 0 where
  pub db : Option (List ℕ)
  pub script : Option (List ℕ)

abbrev pub files : Option (List ℕ) → Option (List ℕ) → Option Files
files db script = Some (record { db = db; script = script })

-- the files of one option and its value: that of a base, or that of a script
abbrev pub files_with : List ℕ → List ℕ → Option Files
files_with option value =
    cond (is_value value) (cond (same_text option (codes "--db")) (files (Some value) None) (cond (same_text option (codes "--script")) (files None (Some value)) None)) None

-- the files of a base and of a script
abbrev pub both_files : List ℕ → List ℕ → Option Files
both_files db script = cond (is_value db && is_value script) (files (Some db) (Some script)) None

-- the files of two options and their values, in any order
abbrev pub files_by : List ℕ → List ℕ → List ℕ → List ℕ → Option Files
files_by first a second b =
    cond (same_text first (codes "--db") && same_text second (codes "--script")) (both_files a b)
    (cond (same_text first (codes "--script") && same_text second (codes "--db")) (both_files b a) None)

-- the files of words that begin with this one: each is that of an option, or none
abbrev pub files_of : List ℕ → List (List ℕ) → Option Files
files_of name (word ∷ []) = cond (same_text word name) (files None None) None
files_of name (word ∷ option ∷ value ∷ []) = cond (same_text word name) (files_with option value) None
files_of name (word ∷ first ∷ a ∷ second ∷ b ∷ []) = cond (same_text word name) (files_by first a second b) None
files_of name _ = None

-- the job of words that ask to run a script: that of a file or of standard input, over the base in a file or the empty one
abbrev pub run_job : List (List ℕ) → Option Job
run_job words = option_map (λ f. Run f.db f.script) (files_of (codes "run") words)

-- the job of words that ask to run a stream of sessions, as one to run a script
abbrev pub many_job : List (List ℕ) → Option Job
many_job words = option_map (λ f. Many f.db f.script) (files_of (codes "many") words)

-- the job of words that ask to check a file
abbrev pub check_job : List (List ℕ) → Option Job
check_job (word ∷ option ∷ value ∷ []) = cond (same_text word (codes "check") && (same_text option (codes "--db") && is_value value))
    (Some (Check value)) None
check_job _ = None

-- the job of a seed and a size
abbrev pub generating : Option ℕ → Option ℕ → Option Job
generating (Some seed) (Some size) = cond (nat_le size most_generated) (Some (Gen seed size)) None
generating _ _ = None

-- the job of two options with their values: a seed and a size in any order
abbrev pub generating_by : List ℕ → List ℕ → List ℕ → List ℕ → Option Job
generating_by first a second b =
    cond (same_text first (codes "--seed") && same_text second (codes "--size")) (generating (number_in_digits a) (number_in_digits b))
    (cond (same_text first (codes "--size") && same_text second (codes "--seed")) (generating (number_in_digits b) (number_in_digits a)) None)

-- the job of words that ask for a generated script
abbrev pub gen_job : List (List ℕ) → Option Job
gen_job (word ∷ first ∷ a ∷ second ∷ b ∷ []) = cond (same_text word (codes "gen")) (generating_by first a second b) None
gen_job _ = None

-- the first job, or where there is none the other
abbrev pub either_job : Option Job → Option Job → Option Job
either_job (Some job) other = Some job
either_job None other = other

-- the job of these words; none where they are in no line of the table
abbrev pub named_job : List (List ℕ) → Option Job
named_job words = either_job (run_job words) (either_job (many_job words) (either_job (check_job words) (gen_job words)))
