-- Rows one after the other, and their lines.
use Rattle.std.proofs.Common.{◌≡◌, ◌∙◌, ℕ, zero, suc, ◌+◌, ◌<◌, ◌≤◌, Bool, ◌&&◌, List, [], ◌∷◌, ◌++◌, codes, length, map, take, get_or, refl, sym, ap, append_assoc, append-nil, arith}
use Rattle.std.specs.List.{flat_map}
use Rattle.std.proofs.lemmas.List.{take_all, take_more}
use Rattle.std.proofs.lemmas.Grind.{flat_map-append}
use Rattle.bdb_base.specs.declared.kinds.Catalog.{Catalog}
use Rattle.bdb_base.specs.declared.kinds.Held.{Held}
use Rattle.bdb_base.specs.declared.kinds.Sign.{Sign}
use Rattle.bdb_base.specs.declared.kinds.Value.{Value}
use Rattle.bdb_base.specs.declared.tuple.Tuple.{Tuple}
use Rattle.bdb_key.specs.Bytes.{num_bytes, values_bytes}
use Rattle.bdb_key.specs.Grammar.{ArePlain, IsNum}
use Rattle.bdb_key.specs.Reading.{Leads, NoneLeads, NoneReads, Reads}
use Rattle.bdb_key.specs.Rows.{IsAnyMark, IsTupleRow, mark_bytes, tuple_bytes}
use Rattle.bdb_key.proofs.Readings.{num_form}
use Rattle.bdb_render.specs.Replies.{count_reply, held_line, mark_text, relation_name, row_text, sign_text, tuple_text, world_reply}
use Rattle.bdb_shown.specs.Rows.{Spell, SpellsRow, raw, told, told_line}
use Rattle.bdb_shown.specs.declared.row.WorldRow.{WorldRow}
use Rattle.bdb_tables.specs.InUseLaws.{mark_rows_are_one}
use Rattle.bdb_tables.specs.Marks.{Mark}

-- ---- a tuple

-- the relation and the values of a tuple, by its bytes
pub tuple_read : (bytes values : List ℕ) (rel : ℕ) → Leads IsNum num_bytes bytes rel values → (t : Tuple) → Reads IsTupleRow tuple_bytes bytes t
    → (rel ≡ t.rel) × Reads ArePlain values_bytes values t.vals
tuple_read bytes values rel l t h =
    let e = num_form rel t.rel values (values_bytes t.vals) l.fits h.fits.rel (sym l.split ∙ sym h.spelled) in
    (e.0, record { fits = h.fits.plain; spelled = sym e.1 })

pub no_tuple : (bytes : List ℕ) → NoneLeads IsNum num_bytes bytes → (t : Tuple) → Reads IsTupleRow tuple_bytes bytes t → ⊥
no_tuple bytes none t h = none t.rel (values_bytes t.vals) (record { fits = h.fits.rel; split = sym h.spelled })

-- a tuple is written where its name, its values and what stands between are
pub tuple_written : (c : Catalog) (bytes values old named out : List ℕ) (rel : ℕ) → Leads IsNum num_bytes bytes rel values → named ≡ old ++ relation_name c rel ++ codes "("
    → ((v : Value) (vals : List Value) → Reads ArePlain values_bytes values (v ∷ vals) → out ≡ named ++ row_text (v ∷ vals))
    → (t : Tuple) → Reads IsTupleRow tuple_bytes bytes t → out ++ codes ")" ≡ old ++ tuple_text c t
tuple_written c bytes values old named out rel l name row t h =
    let e = tuple_read bytes values rel l t h in
    by t.vals h.fits.some e.1 ∙ ap (λ r. old ++ (relation_name c r ++ codes "(" ++ row_text t.vals ++ codes ")")) e.0
  where
    regrouped : (x y z u w : List ℕ) → x ++ y ++ z ++ u ++ w ≡ x ++ (y ++ z ++ u ++ w)
    regrouped x y z u w = ap (λ l. l ++ u ++ w) (append_assoc x y z) ∙ ap (λ l. l ++ w) (append_assoc x (y ++ z) u) ∙ append_assoc x (y ++ z ++ u) w

    by : (vals : List Value) → 0 < length vals → Reads ArePlain values_bytes values vals → out ++ codes ")" ≡ old ++ (relation_name c rel ++ codes "(" ++ row_text vals ++ codes ")")
    by [] some r = absurd (omega (arith, some))
    by (v ∷ vals) some r =
        ap (λ l. l ++ codes ")") (row v vals r ∙ ap (λ l. l ++ row_text (v ∷ vals)) name) ∙ regrouped old (relation_name c rel) (codes "(") (row_text (v ∷ vals)) (codes ")")

-- ---- a row

-- the mark that bytes are is the row's
pub mark_read : (row : List ℕ × List ℕ) (mark : Mark) → Reads IsAnyMark mark_bytes row.1 mark → (h : Held) → SpellsRow row h → (mark.0 ≡ h.sign) × (mark.1 ≡ h.explicit)
mark_read row mark r h s =
    let e : mark ≡ (h.sign, h.explicit) = mark_rows_are_one mark (h.sign, h.explicit) tt tt (r.spelled ∙ sym s.mark.spelled) in
    (ap (λ (m : Mark). m.0) e, ap (λ (m : Mark). m.1) e)

pub no_mark : (row : List ℕ × List ℕ) → NoneReads IsAnyMark mark_bytes row.1 → (h : Held) → SpellsRow row h → ⊥
no_mark row none h s = none (h.sign, h.explicit) s.mark

-- a line is written where its parts are
pub line_written : (c : Catalog) (own : Bool) (row : List ℕ × List ℕ) (sign : Sign) (explicit mark : Bool) (old signed tupled out : List ℕ)
    → Reads IsAnyMark mark_bytes row.1 (sign, explicit) → signed ≡ old ++ sign_text sign ++ codes " "
    → ((t : Tuple) → Reads IsTupleRow tuple_bytes row.0 t → tupled ≡ signed ++ tuple_text c t)
    → mark ≡ (own && explicit) → out ≡ tupled ++ codes " " ++ mark_text mark ++ 10 ∷ []
    → (h : Held) → SpellsRow row h → out ≡ old ++ told_line c own h
line_written c own row sign explicit mark old signed tupled out r s t marked m h is =
    let e = mark_read row (sign, explicit) r h is in
    let text = tuple_text c h.tuple in
    let told_so : mark ≡ (own && h.explicit) = marked ∙ ap (λ x. own && x) e.1 in
    m ∙ ap (λ l. l ++ codes " " ++ mark_text mark ++ 10 ∷ []) (t h.tuple is.tuple ∙ ap (λ l. l ++ text) s)
    ∙ regrouped old (sign_text sign) (codes " ") text (codes " ") (mark_text mark) (10 ∷ [])
    ∙ ap (λ x. old ++ held_line c (record { tuple = h.tuple; sign = x; explicit = mark })) e.0
    ∙ ap (λ x. old ++ held_line c (record { tuple = h.tuple; sign = h.sign; explicit = x })) told_so
  where
    regrouped : (x y z u v w n : List ℕ) → x ++ y ++ z ++ u ++ v ++ w ++ n ≡ x ++ (y ++ z ++ u ++ v ++ w ++ n)
    regrouped x y z u v w n =
        ap (λ l. l ++ u ++ v ++ w ++ n) (append_assoc x y z) ∙ ap (λ l. l ++ v ++ w ++ n) (append_assoc x (y ++ z) u)
        ∙ ap (λ l. l ++ w ++ n) (append_assoc x (y ++ z ++ u) v) ∙ ap (λ l. l ++ n) (append_assoc x (y ++ z ++ u ++ v) w)
        ∙ append_assoc x (y ++ z ++ u ++ v ++ w) n

-- ---- rows one after the other

-- the row of a world whose bytes stand at an index, whatever stands for one past the end
pub record IsNext (rows : List WorldRow) (held : List Held) (i : ℕ) (d : WorldRow) : Type 0 where
  pub here : Held
  pub spells : SpellsRow (raw (get_or rows i d)) here
  pub within : i < length held
  pub is : here ≡ get_or held i here

pub row_next : (rows : List WorldRow) (held : List Held) (i : ℕ) (d : WorldRow) → i < length rows → Spell (map raw rows) held → IsNext rows held i d
row_next [] held i d lt s = absurd (omega arith)
row_next (r ∷ rows) [] i d lt s = absurd s
row_next (r ∷ rows) (h ∷ held) zero d lt s = record { here = h; spells = s.0; within = omega arith; is = refl }
row_next (r ∷ rows) (h ∷ held) (suc i) d lt s =
    let n = row_next rows held i d (omega arith) s.1 in
    record { here = n.here; spells = n.spells; within = omega (arith, n.within); is = n.is }

pub as_many : (rows : List WorldRow) (held : List Held) → Spell (map raw rows) held → length held ≡ length rows
as_many [] [] s = refl
as_many [] (h ∷ held) s = absurd s
as_many (r ∷ rows) [] s = absurd s
as_many (r ∷ rows) (h ∷ held) s = ap suc (as_many rows held s.1)

-- one line more
pub lines_more : (c : Catalog) (own : Bool) (rows : List WorldRow) (i : ℕ) (d : WorldRow) (old new : List ℕ) → i < length rows
    → ((held : List Held) → Spell (map raw rows) held → old ≡ flat_map (told_line c own) (take i held))
    → ((h : Held) → SpellsRow (raw (get_or rows i d)) h → new ≡ old ++ told_line c own h)
    → (held : List Held) → Spell (map raw rows) held → new ≡ flat_map (told_line c own) (take (i + 1) held)
lines_more c own rows i d old new lt before line held s =
    let n = row_next rows held i d lt s in
    line n.here n.spells ∙ ap (λ l. l ++ told_line c own n.here) (before held s)
    ∙ ap (λ l. flat_map (told_line c own) (take i held) ++ l) (sym (append-nil (told_line c own n.here)))
    ∙ sym (flat_map-append (told_line c own) (take i held) (n.here ∷ []))
    ∙ ap (flat_map (told_line c own)) (sym (take_more held i n.here n.within ∙ ap (λ (x : Held). take i held ++ x ∷ []) (sym n.is)))

lines_told : (c : Catalog) (own : Bool) (held : List Held) → flat_map (told_line c own) held ≡ flat_map (held_line c) (map (told own) held)
lines_told c own [] = refl
lines_told c own (h ∷ held) = ap (λ l. told_line c own h ++ l) (lines_told c own held)

length_told : (own : Bool) (held : List Held) → length (map (told own) held) ≡ length held
length_told own [] = refl
length_told own (h ∷ held) = ap suc (length_told own held)

-- the lines with their number are the reply
pub lines_all : (c : Catalog) (own : Bool) (rows : List WorldRow) (i : ℕ) (old new : List ℕ) → length rows ≤ i
    → ((held : List Held) → Spell (map raw rows) held → old ≡ flat_map (told_line c own) (take i held))
    → new ≡ old ++ count_reply (length rows)
    → (held : List Held) → Spell (map raw rows) held → new ≡ world_reply c (record { held = map (told own) held })
lines_all c own rows i old new end before counted held s =
    let many = as_many rows held s in
    let all : take i held ≡ held = take_all i held (omega (arith, many, end)) in
    counted ∙ ap (λ l. l ++ count_reply (length rows)) (before held s ∙ ap (flat_map (told_line c own)) all ∙ lines_told c own held)
    ∙ ap (λ n. flat_map (held_line c) (map (told own) held) ++ count_reply n) (sym many ∙ sym (length_told own held))
