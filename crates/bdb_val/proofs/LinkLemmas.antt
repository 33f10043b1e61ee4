-- The links that are listed are those of the tables.
use Rattle.std.proofs.Common.{◌≡◌, ◌∙◌, ℕ, ◌+◌, ◌<◌, ◌≤◌, Bool, true, false, List, [], ◌∷◌, ◌++◌, length, take, get_or, Option, Some, is_some, map, append_assoc, refl, ap, sym, subst}
use Rattle.std.specs.List.{AllByRecursion}
use Rattle.std.specs.Option.{option_map}
use Rattle.std.proofs.lemmas.Bool.{false≢true}
use Rattle.std.proofs.lemmas.List.{append-nil, map-append}
use Rattle.bdb_keep.specs.Spans.{Listed, AreRowsUnder}
use Rattle.bdb_keep.specs.Tables.{Tables}
use Rattle.bdb_key.specs.Bytes.{num_bytes}
use Rattle.bdb_key.specs.Reading.{Reads}
use Rattle.bdb_tables.specs.Codec.{HasAt, IsEntryOf, place}
use Rattle.bdb_tables.specs.InUse.{IsPair, pair_bytes, link_codec, linked_codec}
use Rattle.bdb_tables.specs.Names.{Names, link_of, leads_to}
use Rattle.bdb_tables.specs.Spans.{AreUnder, IsUnder, Spells}
use Rattle.bdb_tables.specs.States.{row_where}
use Rattle.bdb_tables.proofs.RangeLemmas.{spelled_under, zip_more, zip_all}
use Rattle.bdb_tables.proofs.Held.{leads_is}
use Rattle.bdb_val.specs.Groups.{HasLinks}
use Rattle.bdb_val.specs.Others.{SamePlacesBut}
use Rattle.bdb_val.specs.Visits.{AreLinksTo, ArePushed, PushesRead, turned_round}
use Rattle.bdb_val.specs.Walks.{AreLinkedTo}
use Rattle.bdb_val.proofs.OtherLemmas.{is_rows}
use Rattle.bdb_val.proofs.WalkLemmas.{links_at, link_found}

-- the worlds that have links
abbrev pub worlds_with : List (ℕ × ℕ) → List ℕ
worlds_with = map (λ p. p.0)

-- the worlds that have the links that lead to a world are linked to it
pub linked_to : (t : Tables) (wid : ℕ) (more : List (ℕ × ℕ)) → AreLinksTo t wid more → AreLinkedTo t wid (worlds_with more)
linked_to t wid more l = record { entries = l.entries; under = l.under; listed = ap worlds_with l.listed ∙ go l.entries }
  where
    go : (es : List ((ℕ × ℕ) × Unit {0})) → worlds_with (map turned_round es) ≡ map (λ e. e.0.1) es
    go [] = refl
    go (e ∷ es) = ap (λ (xs : List ℕ). e.0.1 ∷ xs) (go es)

-- a link is that of its world in the tables
abbrev pub IsLink : Tables → ℕ × ℕ → Type 0
IsLink t p = HasAt link_codec t p.0 (Some p.1)

-- links stay where only rows of worlds change
pub still_link : (t u : Tables) → SamePlacesBut is_rows t u → (p : ℕ × ℕ) → IsLink t p → IsLink u p
still_link t u same p h = record { in_grammar = h.in_grammar; found = same (place link_codec p.0) refl ∙ h.found }

-- the links that lead to a world, read after rows of worlds changed, are those of the tables before
pub links_are : (ns : Names) (t u : Tables) → HasLinks ns t → SamePlacesBut is_rows t u → (wid : ℕ) (more : List (ℕ × ℕ)) → AreLinksTo u wid more → AllByRecursion (IsLink t) more
links_are ns t u h same wid more l = subst (AllByRecursion (IsLink t)) (sym l.listed) (go l.entries l.under.each (link_found l.entries l.entries (λ q k. k)))
  where
    stands : (b : Bool) (o : Option (List ℕ)) → option_map (λ _. []) (row_where b) ≡ o → is_some o ≡ true → b ≡ true
    stands true o e k = refl
    stands false o e k = absurd (false≢true (ap is_some e ∙ k))

    one : (d : ℕ × ℕ) → IsPair d → link_of ns d.1 ≡ Some d.0 → IsLink t (d.1, d.0)
    one d p e = record { in_grammar = p.first; found = h.link.rows d.1 p.second ∙ ap (option_map num_bytes) e }

    go : (es : List ((ℕ × ℕ) × Unit {0})) → AllByRecursion (IsUnder linked_codec (num_bytes wid)) es → AllByRecursion (λ e. is_some (links_at l.entries (pair_bytes e.0)) ≡ true) es
        → AllByRecursion (IsLink t) (map turned_round es)
    go [] a b = tt
    go (d ∷ ds) a b =
        let k = stands (leads_to (link_of ns d.0.1) d.0.0) (links_at l.entries (pair_bytes d.0))
        (sym (h.linked.rows d.0 a.0.key) ∙ sym (same (place linked_codec d.0) refl) ∙ l.under.found (pair_bytes d.0) a.0.begins) b.0 in
        (one d.0 a.0.key (leads_is (link_of ns d.0.1) d.0.0 k), go ds a.1 b.1)

-- ---- links that are read at once

pub read_none : (bytes : Listed) (before : List (ℕ × ℕ)) → PushesRead (take 0 bytes) before before
read_none bytes before = record { entries = []; spelled = tt; list = sym (append-nil before) }

pub read_more : (bytes : Listed) (i n : ℕ) (k r : List ℕ) (link : ℕ × ℕ) (before list after : List (ℕ × ℕ)) → i < length bytes → (k, r) ≡ get_or bytes i ([], []) → IsEntryOf linked_codec k r
    → Reads linked_codec.IsKey linked_codec.key_bytes k link → PushesRead (take i bytes) before list → after ≡ list ++ (link.1, link.0) ∷ [] → n ≡ i + 1 → PushesRead (take n bytes) before after
read_more bytes i n k r link before list after lt is fits reads h pushed next = record {
  entries = h.entries ++ (link, tt) ∷ [];
  spelled = zip_more (Spells linked_codec) bytes h.entries (h.entries ++ (link, tt) ∷ []) i n (k, r) (link, tt) lt is h.spelled (record { key = reads; row = fits.row_reads }) refl next;
  list = pushed ∙ ap (λ (xs : List (ℕ × ℕ)). xs ++ (link.1, link.0) ∷ []) h.list ∙ append_assoc before (map turned_round h.entries) ((link.1, link.0) ∷ [])
      ∙ ap (λ (xs : List (ℕ × ℕ)). before ++ xs) (sym (map-append turned_round h.entries ((link, tt) ∷ [])));
}

pub read_all : (bytes : Listed) (i : ℕ) (before after : List (ℕ × ℕ)) → length bytes ≤ i → PushesRead (take i bytes) before after → PushesRead bytes before after
read_all bytes i before after past h = record { entries = h.entries; spelled = zip_all (Spells linked_codec) bytes h.entries i past h.spelled; list = h.list }

pub pushed_read : (t : Tables) (wid : ℕ) (prefix : List ℕ) (bytes : Listed) (before after : List (ℕ × ℕ)) → prefix ≡ num_bytes wid → AreRowsUnder t 8 prefix bytes → PushesRead bytes before after → ArePushed t wid before after
pushed_read t wid prefix bytes before after begins rows h = record {
  more = map turned_round h.entries;
  linked = record {
    entries = h.entries;
    under = subst (λ b. AreUnder linked_codec t b h.entries) begins (spelled_under linked_codec t 8 prefix bytes h.entries refl rows h.spelled);
    listed = refl;
  };
  list = h.list;
}
