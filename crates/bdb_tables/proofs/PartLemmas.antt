-- Keys of several parts are none where a part is none, and a key that is written is one.
use Rattle.std.proofs.Common.{◌≡◌, ◌∙◌, ℕ, List, [], ◌∷◌, ◌++◌, ap, sym, append_assoc}
use Rattle.std.specs.List.{AllByRecursion}
use Rattle.bdb_base.specs.declared.kinds.Value.{Value}
use Rattle.bdb_base.specs.declared.kinds.Value.TheVariants.{Int, Text}
use Rattle.bdb_key.specs.Bytes.{num_bytes, vals_bytes}
use Rattle.bdb_key.specs.Grammar.{IsNum, HasEightBytes, HasPlainText, IsPlainValue, ArePlain, AreKeyVals}
use Rattle.bdb_key.specs.Reading.{Leads, NoneLeads, NoneReads}
use Rattle.bdb_key.specs.Order.{vals_cmp}
use Rattle.bdb_key.proofs.Compared.{lists, lists_tie}
use Rattle.bdb_key.proofs.Forms.{one_form}
use Rattle.bdb_key.proofs.Readings.{num_form}
use Rattle.bdb_tables.specs.InUse.{HaveKeyTexts, IsPair, IsTriple, IsValKey, pair_bytes, triple_bytes, val_bytes}

-- a list of values is told by its bytes, whatever follows
pub vals_form : (a b : List Value) (x y : List ℕ) → AreKeyVals a → AreKeyVals b → vals_bytes a ++ x ≡ vals_bytes b ++ y → (a ≡ b) × (x ≡ y)
vals_form = one_form AreKeyVals vals_bytes vals_cmp lists lists_tie

pub triple_none_pair : (bytes : List ℕ) → NoneLeads IsPair pair_bytes bytes → NoneReads IsTriple triple_bytes bytes
triple_none_pair bytes none key h = none (key.0, key.1) (num_bytes key.2) (record { fits = record { first = h.fits.first; second = h.fits.second }; split = sym h.spelled })

pub val_none_pair : (bytes : List ℕ) → NoneLeads IsPair pair_bytes bytes → NoneReads IsValKey val_bytes bytes
val_none_pair bytes none key h =
    none (key.0, key.1) (vals_bytes key.2 ++ num_bytes key.3) (record { fits = record { first = h.fits.world; second = h.fits.rel }; split = sym h.spelled })

pub val_none_tuple : (bytes rest more : List ℕ) (pair : ℕ × ℕ) (values : List Value) → Leads IsPair pair_bytes bytes pair rest → Leads AreKeyVals vals_bytes rest values more
    → NoneReads IsNum num_bytes more → NoneReads IsValKey val_bytes bytes
val_none_tuple bytes rest more pair values p v none key h =
    let world = num_form key.0 pair.0 (num_bytes key.1 ++ (vals_bytes key.2 ++ num_bytes key.3)) (num_bytes pair.1 ++ rest) h.fits.world p.fits.first (h.spelled ∙ p.split) in
    let rel = num_form key.1 pair.1 (vals_bytes key.2 ++ num_bytes key.3) rest h.fits.rel p.fits.second world.1 in
    let form = vals_form key.2 values (num_bytes key.3) more h.fits.key v.fits (rel.1 ∙ v.split) in
    none key.3 (record { fits = h.fits.tuple; spelled = form.1 })

value_plain : (v : Value) → HasPlainText v → HasEightBytes v → IsPlainValue v
value_plain (Int m) t w = w
value_plain (Text s) t w = t

all_plain : (vs : List Value) → AllByRecursion HasPlainText vs → AllByRecursion HasEightBytes vs → ArePlain vs
all_plain [] t w = tt
all_plain (v ∷ vs) t w = (value_plain v t.0 w.0, all_plain vs t.1 w.1)

-- values that were written are those of a key
pub written_key : (vs : List Value) → HaveKeyTexts vs → AllByRecursion HasEightBytes vs → AreKeyVals vs
written_key vs h w = record { short = h.short; plain = all_plain vs h.texts w }

-- bytes that were appended one after the other
pub three_more : (a b c d x y z : List ℕ) → b ≡ a ++ x → c ≡ b ++ y → d ≡ c ++ z → d ≡ a ++ (x ++ y ++ z)
three_more a b c d x y z e f g =
    g ∙ ap (λ (k : List ℕ). k ++ z) (f ∙ ap (λ (k : List ℕ). k ++ y) e ∙ append_assoc a x y) ∙ append_assoc a (x ++ y) z
