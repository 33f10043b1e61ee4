-- What single calls read is what the tables show.
use Rattle.std.proofs.Common.{◌≡◌, ◌∙◌, ℕ, ◌<◌, true, false, List, [], ◌∷◌, ◌++◌, Option, Some, None, MatchOption, length, map, filter_map, drop, refl, ap, sym}
use Rattle.std.specs.List.{list_all, AllByRecursion}
use Rattle.std.specs.Option.{option_map}
use Rattle.std.proofs.lemmas.Bool.{and_parts, false≢true}
use Rattle.std.proofs.lemmas.List.{append-nil, length-map}
use Rattle.std.proofs.lemmas.List.Elements.{filter_map-append}
use Rattle.bdb_base.specs.declared.kinds.UserSlot.{UserSlot}
use Rattle.bdb_base.specs.declared.kinds.UserSlot.TheVariants.{Live, Gone}
use Rattle.bdb_base.specs.declared.kinds.Value.{Value}
use Rattle.bdb_base.specs.declared.kinds.Value.TheVariants.{Int, Text}
use Rattle.bdb_base.specs.declared.tuple.Tuple.{Tuple}
use Rattle.bdb_base.proofs.OptionLemmas.{none_is_some, same_some}
use Rattle.bdb_keep.specs.Tables.{Tables}
use Rattle.bdb_key.specs.Bytes.{num_bytes, text_bytes}
use Rattle.bdb_key.specs.Grammar.{IsNum, ArePlain, HasEightBytes, HasPlainText}
use Rattle.bdb_key.specs.Rows.{IsTupleRow}
use Rattle.bdb_queries.specs.Slots.{user_tuple}
use Rattle.bdb_tables.specs.Codec.{HasAt, HasRow}
use Rattle.bdb_tables.specs.InUse.{user_codec, tuple_codec, tuple_ix_codec, edge_codec}
use Rattle.bdb_tables.specs.InUseLaws.{number_rows_are_one}
use Rattle.bdb_tables.specs.Spans.{AreUnder, IsUnder}
use Rattle.bdb_tables.proofs.PrefixLemmas.{all_written}
use Rattle.bdb_base.specs.Bases.{is_written}
use Rattle.bdb_exec.specs.Readable.{CanBeRun}
use Rattle.bdb_exec.specs.Rows.{IsNumberOf, tuple_of_slot}
use Rattle.bdb_exec.specs.Seen.{user_in, sight_of}
use Rattle.bdb_exec.specs.Spelled.{number_in, before_end}
use Rattle.bdb_exec.proofs.SpelledLemmas.{number_back, name_back}
use Rattle.bdb_exec.proofs.TypedLemmas.{raw, rows_are}
use Rattle.bdb_exec.proofs.WorldLemmas.{tuple_named}

-- what rows of users spell
users_back : (es : List (ℕ × UserSlot)) → AllByRecursion (IsUnder user_codec []) es → filter_map user_in (map (raw user_codec) es) ≡ filter_map tuple_of_slot es
users_back [] a = refl
users_back ((uid, Live name) ∷ es) a =
    ap (λ n. user_tuple n (before_end (drop 1 (text_bytes name))) ∷ filter_map user_in (map (raw user_codec) es)) (number_back uid a.0.key)
    ∙ ap (λ x. user_tuple uid x ∷ filter_map user_in (map (raw user_codec) es)) (name_back name a.0.row)
    ∙ ap (λ (x : List Tuple). user_tuple uid name ∷ x) (users_back es a.1)
users_back ((uid, Gone) ∷ es) a = users_back es a.1

pub users_are : (t : Tables) (es : List (ℕ × UserSlot)) → AreUnder user_codec t [] es → filter_map tuple_of_slot es ≡ (sight_of t).users
unfolding sight_of
users_are t es u = sym (ap (filter_map user_in) (rows_are user_codec t [] es u) ∙ users_back es u.each)

pub places_many : (t : Tables) (es : List (ℕ × UserSlot)) → AreUnder user_codec t [] es → length es ≡ (sight_of t).places
unfolding sight_of
places_many t es u = sym (ap length (rows_are user_codec t [] es u) ∙ length-map es (raw user_codec))

-- with one row more, of a live user, there is one user more
pub user_more : (users : List Tuple) (es : List (ℕ × UserSlot)) (e : ℕ × UserSlot) (name : List ℕ) (t : Tuple) → users ≡ filter_map tuple_of_slot es → e.1 ≡ Live name → t ≡ user_tuple e.0 name
    → users ++ t ∷ [] ≡ filter_map tuple_of_slot (es ++ e ∷ [])
user_more users es e name t h live is =
    ap (λ (x : List Tuple). x ++ t ∷ []) h ∙ ap (λ x. filter_map tuple_of_slot es ++ x ∷ []) is
    ∙ ap (λ slot. filter_map tuple_of_slot es ++ filter_map tuple_of_slot ((e.0, slot) ∷ [])) (sym live) ∙ sym (filter_map-append tuple_of_slot es (e ∷ []))

-- with one row more, of one who is gone, the users are as before
pub no_user_more : (users : List Tuple) (es : List (ℕ × UserSlot)) (e : ℕ × UserSlot) → users ≡ filter_map tuple_of_slot es → e.1 ≡ Gone → users ≡ filter_map tuple_of_slot (es ++ e ∷ [])
no_user_more users es e h gone =
    h ∙ sym (append-nil (filter_map tuple_of_slot es)) ∙ ap (λ slot. filter_map tuple_of_slot es ++ filter_map tuple_of_slot ((e.0, slot) ∷ [])) (sym gone)
    ∙ sym (filter_map-append tuple_of_slot es (e ∷ []))

pub edge_is : (t : Tables) (w i : ℕ) (o : Option ℕ) → HasAt edge_codec t (w, i) o → o ≡ (sight_of t).edge w i
unfolding sight_of
edge_is t w i None h = sym (ap (option_map number_in) h)
edge_is t w i (Some n) h = sym (ap (option_map number_in) h.found ∙ ap Some (number_back n h.in_grammar))

-- ---- numbers of tuples

pub written_texts : (vs : List Value) → list_all is_written vs ≡ true → AllByRecursion HasPlainText vs
written_texts [] a = tt
written_texts (Int m ∷ vs) a = (tt, written_texts vs a)
written_texts (Text s ∷ vs) a = let p = and_parts (is_written (Text s)) (list_all is_written vs) a in (p.0, written_texts vs p.1)

pub written_text : (v : Value) → is_written v ≡ true → HasPlainText v
written_text (Int m) e = tt
written_text (Text s) e = e

plain_values : (vs : List Value) → AllByRecursion HasEightBytes vs → AllByRecursion HasPlainText vs → ArePlain vs
plain_values [] w h = tt
plain_values (Int m ∷ vs) w h = (w.0, plain_values vs w.1 h.1)
plain_values (Text s ∷ vs) w h = (h.0, plain_values vs w.1 h.1)

pub tuple_row : (u : Tuple) → 0 < length u.vals → IsNum u.rel → AllByRecursion HasEightBytes u.vals → list_all is_written u.vals ≡ true → IsTupleRow u
tuple_row u some rel whole written = record { rel = rel; some = some; plain = plain_values u.vals whole (written_texts u.vals written) }

pub no_number : (t : Tables) (u : Tuple) → list_all is_written u.vals ≡ false → IsNumberOf t u None
no_number t u e tid n r = false≢true (sym e ∙ all_written u.vals r.in_grammar.plain)

pub number_is : (t : Tables) → CanBeRun t → (u : Tuple) (o : Option ℕ) → IsTupleRow u → HasAt tuple_ix_codec t u o → IsNumberOf t u o
number_is t h u None row none = λ tid n r.
    none_is_some (num_bytes tid) (sym none ∙ h.held.numbers.rows u row ∙ ap (option_map num_bytes) (h.held.named tid u (tuple_named t h tid u n r)))
number_is t h u (Some m) row some = (some.in_grammar, by (h.tuples.number u) refl (h.held.numbers.written u row) (sym (h.held.numbers.rows u row) ∙ some.found))
  where
    by : (o : Option ℕ) → h.tuples.number u ≡ o → MatchOption o (Unit {0}) IsNum → option_map num_bytes o ≡ Some (num_bytes m) → HasRow tuple_codec t m u
    by None e w f = absurd (none_is_some (num_bytes m) f)
    by (Some k) e w f =
        let same : k ≡ m = number_rows_are_one k m w some.in_grammar (same_some (num_bytes k) (num_bytes m) f) in
        Rattle.bdb_exec.proofs.WorldLemmas.has_row t h m u (h.held.numbered u m (e ∙ ap Some same))
