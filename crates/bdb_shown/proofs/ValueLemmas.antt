-- Values at the front of bytes, and what is written of them.
use Rattle.std.proofs.Common.{◌≡◌, ◌∙◌, ℕ, suc, ℤ, ◌-◌, ◌≤◌, ◌<◌, List, [], ◌∷◌, ◌++◌, length, map, drop, codes, refl, sym, ap, append_assoc, append-nil, length-append, arith, FitsSigned}
use Rattle.std.specs.Int.{w64, to_be_bytes}
use Rattle.std.specs.List.{flat_map}
use Rattle.std.proofs.lemmas.List.{nil_from_length}
use Rattle.bdb_base.specs.Texts.{quoted, value_text}
use Rattle.bdb_base.specs.declared.kinds.Value.{Value}
use Rattle.bdb_base.specs.declared.kinds.Value.TheVariants.{Int, Text}
use Rattle.bdb_key.specs.Bytes.{int_bytes, raised, value_bytes, values_bytes}
use Rattle.bdb_key.specs.Grammar.{ArePlain, IsPlainValue}
use Rattle.bdb_key.specs.Reading.{Leads, NoneLeads, Reads, SplitsAtZero}
use Rattle.bdb_key.proofs.Compared.{printing}
use Rattle.bdb_key.proofs.Readings.{no_end, value_form, value_forms}
use Rattle.bdb_render.specs.Replies.{row_text}

-- an integer that bytes begin with is the value that they begin with
pub int_leads : (n : ℤ) (bytes rest : List ℕ) → Leads (FitsSigned w64) int_bytes bytes n rest → (v : Value) (more : List ℕ) → Leads IsPlainValue value_bytes bytes v more
    → (Int n ≡ v) × (rest ≡ more)
int_leads n bytes rest h v more l = value_form (Int n) v rest more h.fits l.fits (sym h.split ∙ l.split)

-- the integer is behind nine bytes
pub int_shorter : (n : ℤ) (bytes rest : List ℕ) → Leads (FitsSigned w64) int_bytes bytes n rest → length rest ≤ length bytes - 1
int_shorter n bytes rest h =
    let e : length bytes ≡ suc (length (to_be_bytes w64 (raised n) ++ rest)) = ap length h.split in
    let f = length-append (to_be_bytes w64 (raised n)) rest in
    omega (arith, e, f)

-- a value that bytes begin with which begin with no integer is a text, behind a byte
pub text_leads : (bytes rest : List ℕ) → NoneLeads (FitsSigned w64) int_bytes bytes → rest ≡ drop 1 bytes → (v : Value) (more : List ℕ) → Leads IsPlainValue value_bytes bytes v more
    → (text : List ℕ) × (quoted text ≡ value_text v) × SplitsAtZero rest text more
text_leads bytes rest none is (Int m) more l = absurd (none m more (record { fits = l.fits; split = l.split }))
text_leads bytes rest none is (Text text) more l =
    (text, refl, record { none = no_end text (printing text l.fits); split = is ∙ ap (drop 1) l.split ∙ append_assoc text (0 ∷ []) more })

-- ---- values one after the other

-- what is written between two values, and the second one
abbrev pub behind_another : Value → List ℕ
behind_another v = codes ", " ++ value_text v

separated_values : (vals : List Value) → flat_map (λ text. codes ", " ++ text) (map value_text vals) ≡ flat_map behind_another vals
separated_values [] = refl
separated_values (v ∷ vals) = ap (λ l. behind_another v ++ l) (separated_values vals)

-- what was written, with the values that are left, is what is wanted
pub record AreLeft (rest out wanted : List ℕ) : Type 0 where
  pub left : List Value
  pub reads : Reads ArePlain values_bytes rest left
  pub written : out ++ flat_map behind_another left ≡ wanted

first_leads : (bytes : List ℕ) (v : Value) (vals : List Value) → Reads ArePlain values_bytes bytes (v ∷ vals) → Leads IsPlainValue value_bytes bytes v (values_bytes vals)
first_leads bytes v vals h = record { fits = h.fits.0; split = sym h.spelled }

-- behind the first value
pub left_first : (bytes rest old out : List ℕ) → ((v : Value) (more : List ℕ) → Leads IsPlainValue value_bytes bytes v more → out ≡ old ++ value_text v)
    → ((v : Value) (more : List ℕ) → Leads IsPlainValue value_bytes bytes v more → rest ≡ more)
    → (v : Value) (vals : List Value) → Reads ArePlain values_bytes bytes (v ∷ vals) → AreLeft rest out (old ++ row_text (v ∷ vals))
left_first bytes rest old out text behind v vals r =
    let first = first_leads bytes v vals r in
    record {
      left = vals;
      reads = record { fits = r.fits.1; spelled = sym (behind v (values_bytes vals) first) };
      written = ap (λ l. l ++ flat_map behind_another vals) (text v (values_bytes vals) first) ∙ append_assoc old (value_text v) (flat_map behind_another vals)
          ∙ ap (λ l. old ++ (value_text v ++ l)) (sym (separated_values vals));
    }

-- behind one more
pub left_more : (bytes rest old out wanted : List ℕ) → 0 < length bytes
    → ((v : Value) (more : List ℕ) → Leads IsPlainValue value_bytes bytes v more → out ≡ (old ++ codes ", ") ++ value_text v)
    → ((v : Value) (more : List ℕ) → Leads IsPlainValue value_bytes bytes v more → rest ≡ more) → AreLeft bytes old wanted → AreLeft rest out wanted
left_more bytes rest old out wanted some text behind l = by l.left l.reads l.written
  where
    by : (left : List Value) → Reads ArePlain values_bytes bytes left → old ++ flat_map behind_another left ≡ wanted → AreLeft rest out wanted
    by [] r w = let e : 0 ≡ length bytes = ap length r.spelled in absurd (omega (arith, e, some))
    by (v ∷ vals) r w =
        let first = first_leads bytes v vals r in
        record {
          left = vals;
          reads = record { fits = r.fits.1; spelled = sym (behind v (values_bytes vals) first) };
          written = ap (λ l. l ++ flat_map behind_another vals) (text v (values_bytes vals) first)
              ∙ append_assoc (old ++ codes ", ") (value_text v) (flat_map behind_another vals)
              ∙ append_assoc old (codes ", ") (value_text v ++ flat_map behind_another vals)
              ∙ ap (λ l. old ++ l) (sym (append_assoc (codes ", ") (value_text v) (flat_map behind_another vals)))
              ∙ w;
        }

-- where no bytes are left, all is written
pub left_all : (bytes out wanted : List ℕ) → length bytes ≡ 0 → AreLeft bytes out wanted → out ≡ wanted
left_all bytes out wanted none l = by l.left l.reads l.written
  where
    by : (left : List Value) → Reads ArePlain values_bytes bytes left → out ++ flat_map behind_another left ≡ wanted → out ≡ wanted
    by [] r w = sym (append-nil out) ∙ w
    by (v ∷ vals) r w = absurd (value_forms.some v (values_bytes vals) (sym (nil_from_length bytes none) ∙ sym r.spelled))
