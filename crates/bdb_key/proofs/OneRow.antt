-- No two rows of one table are written alike.
use Rattle.std.proofs.Common.{◌≡◌, ℕ, Bool, true, false, cond, nat_eq, lit<, refl, sym, ap, subst, ◌∙◌, inl, inr}
use Rattle.std.proofs.lemmas.Bool.{eqb-true, false≢true, or_cases}
use Rattle.bdb_base.specs.declared.kinds.RelDef.{RelDef}
use Rattle.bdb_base.specs.declared.kinds.Sign.{Sign}
use Rattle.bdb_base.specs.declared.kinds.Sign.TheVariants as signs
use Rattle.bdb_base.specs.declared.kinds.UserSlot.{UserSlot}
use Rattle.bdb_base.specs.declared.tuple.Tuple.{Tuple}
use Rattle.bdb_key.specs.declared.row.TabRow.{TabRow}
use Rattle.bdb_key.specs.declared.row.TabRow.TheVariants as rows
use Rattle.bdb_key.specs.Bytes.{num_bytes}
use Rattle.bdb_key.specs.Grammar.{IsNum}
use Rattle.bdb_key.specs.Laws.{RowsHaveOneSpelling}
use Rattle.bdb_key.specs.Rows.{IsRow, IsRelRow, IsTupleRow, IsUserRow, mark_number, row_bytes, rel_bytes, tuple_bytes, slot_bytes, sign_bytes}
use Rattle.bdb_key.proofs.Alone.{one_num, one_slot, one_rel, one_tuple, one_sign}

-- ---- the number of a sign and a mark

mark_small : (s : Sign) (m : Bool) → IsNum (mark_number s m)
mark_small signs.Plus false = lit< tt
mark_small signs.Plus true = lit< tt
mark_small signs.Minus false = lit< tt
mark_small signs.Minus true = lit< tt

-- the sign and the mark of a number
of_number : ℕ → TabRow
of_number n =
    cond (nat_eq n 0) (rows.Val signs.Plus false) (
    cond (nat_eq n 1) (rows.Val signs.Plus true) (
    cond (nat_eq n 2) (rows.Val signs.Minus false) (rows.Val signs.Minus true)))

read_back : (s : Sign) (m : Bool) → of_number (mark_number s m) ≡ rows.Val s m
unfolding of_number
read_back signs.Plus false = refl
read_back signs.Plus true = refl
read_back signs.Minus false = refl
read_back signs.Minus true = refl

one_mark : (s : Sign) (m : Bool) (u : Sign) (v : Bool) → mark_number s m ≡ mark_number u v → rows.Val s m ≡ rows.Val u v
one_mark s m u v e = sym (read_back s m) ∙ ap of_number e ∙ read_back u v

-- ---- a row against any other of its table

beside_meta : (n : ℕ) (b : TabRow) → IsNum n → IsRow 1 b → num_bytes n ≡ row_bytes b → rows.Meta n ≡ b
beside_meta n (rows.Meta m) f h e = ap rows.Meta (one_num n m f h.fits e)
beside_meta n b f h e = absurd (false≢true h.of)

beside_user : (s : UserSlot) (b : TabRow) → IsUserRow s → IsRow 2 b → slot_bytes s ≡ row_bytes b → rows.User s ≡ b
beside_user s (rows.User u) f h e = ap rows.User (one_slot s u f h.fits e)
beside_user s b f h e = absurd (false≢true h.of)

beside_rel : (d : RelDef) (b : TabRow) → IsRelRow d → IsRow 3 b → rel_bytes d ≡ row_bytes b → rows.Rel d ≡ b
beside_rel d (rows.Rel c) f h e = ap rows.Rel (one_rel d c f h.fits e)
beside_rel d b f h e = absurd (false≢true h.of)

beside_tuple : (t : Tuple) (b : TabRow) → IsTupleRow t → IsRow 4 b → tuple_bytes t ≡ row_bytes b → rows.Tuple t ≡ b
beside_tuple t (rows.Tuple u) f h e = ap rows.Tuple (one_tuple t u f h.fits e)
beside_tuple t b f h e = absurd (false≢true h.of)

beside_tid : (n : ℕ) (b : TabRow) → IsNum n → IsRow 5 b → num_bytes n ≡ row_bytes b → rows.Tid n ≡ b
beside_tid n (rows.Tid m) f h e = ap rows.Tid (one_num n m f h.fits e)
beside_tid n b f h e = absurd (false≢true h.of)

beside_depth : (n : ℕ) (b : TabRow) → IsNum n → IsRow 6 b → num_bytes n ≡ row_bytes b → rows.Depth n ≡ b
beside_depth n (rows.Depth m) f h e = ap rows.Depth (one_num n m f h.fits e)
beside_depth n b f h e = absurd (false≢true h.of)

beside_suffix : (n : ℕ) (b : TabRow) → IsNum n → IsRow 7 b → num_bytes n ≡ row_bytes b → rows.Link n ≡ b
beside_suffix n (rows.Link m) f h e = ap rows.Link (one_num n m f h.fits e)
beside_suffix n b f h e = absurd (false≢true h.of)

beside_edge : (n : ℕ) (b : TabRow) → IsNum n → IsRow 9 b → num_bytes n ≡ row_bytes b → rows.Link n ≡ b
beside_edge n (rows.Link m) f h e = ap rows.Link (one_num n m f h.fits e)
beside_edge n b f h e = absurd (false≢true h.of)

beside_turned_suffix : (b : TabRow) → IsRow 8 b → rows.Empty ≡ b
beside_turned_suffix rows.Empty h = refl
beside_turned_suffix b h = absurd (false≢true h.of)

beside_turned_edge : (b : TabRow) → IsRow 10 b → rows.Empty ≡ b
beside_turned_edge rows.Empty h = refl
beside_turned_edge b h = absurd (false≢true h.of)

beside_val : (s : Sign) (m : Bool) (b : TabRow) → IsRow 11 b → num_bytes (mark_number s m) ≡ row_bytes b → rows.Val s m ≡ b
beside_val s m (rows.Val u v) h e = one_mark s m u v (one_num (mark_number s m) (mark_number u v) (mark_small s m) (mark_small u v) e)
beside_val s m b h e = absurd (false≢true h.of)

beside_plain : (s : Sign) (b : TabRow) → IsRow 12 b → sign_bytes s ≡ row_bytes b → rows.Plain s ≡ b
beside_plain s (rows.Plain u) h e = ap rows.Plain (one_sign s u e)
beside_plain s b h e = absurd (false≢true h.of)

-- ---- any two

-- a row of a table is one of the table of that number
moved : (tab n : ℕ) (b : TabRow) → nat_eq tab n ≡ true → IsRow tab b → IsRow n b
moved tab n b e h = subst (λ i. IsRow i b) (eqb-true tab n e) h

pub rows_have_one_spelling : RowsHaveOneSpelling
rows_have_one_spelling tab (rows.Meta n) b f h e = beside_meta n b f.fits (moved tab 1 b f.of h) e
rows_have_one_spelling tab (rows.User s) b f h e = beside_user s b f.fits (moved tab 2 b f.of h) e
rows_have_one_spelling tab (rows.Rel d) b f h e = beside_rel d b f.fits (moved tab 3 b f.of h) e
rows_have_one_spelling tab (rows.Tuple t) b f h e = beside_tuple t b f.fits (moved tab 4 b f.of h) e
rows_have_one_spelling tab (rows.Tid n) b f h e = beside_tid n b f.fits (moved tab 5 b f.of h) e
rows_have_one_spelling tab (rows.Depth n) b f h e = beside_depth n b f.fits (moved tab 6 b f.of h) e
rows_have_one_spelling tab (rows.Link n) b f h e =
    elim (or_cases (nat_eq tab 7) (nat_eq tab 9) f.of) [
      | inl s ↦ beside_suffix n b f.fits (moved tab 7 b s h) e
      | inr s ↦ beside_edge n b f.fits (moved tab 9 b s h) e
    ]
rows_have_one_spelling tab rows.Empty b f h e =
    elim (or_cases (nat_eq tab 8) (nat_eq tab 10) f.of) [
      | inl s ↦ beside_turned_suffix b (moved tab 8 b s h)
      | inr s ↦ beside_turned_edge b (moved tab 10 b s h)
    ]
rows_have_one_spelling tab (rows.Val s m) b f h e = beside_val s m b (moved tab 11 b f.of h) e
rows_have_one_spelling tab (rows.Plain s) b f h e = beside_plain s b (moved tab 12 b f.of h) e
