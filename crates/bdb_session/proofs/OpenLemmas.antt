-- What opening finds in tables that stand for a base.
use Rattle.std.proofs.Common.{◌≡◌, ◌∙◌, ℕ, suc, Bool, true, false, ◌||◌, List, Option, Some, None, Result, Ok, Err, IfOk, OnOk, refl, ap, sym, subst, inl, inr, arith}
use Rattle.std.specs.Prelude.{nat_eq, if◌then◌else◌}
use Rattle.std.specs.FinMap as tables
use Rattle.std.specs.FinMap.{get-empty, len-empty, empty_of_len}
use Rattle.std.proofs.lemmas.Bool.{or_right}
use Rattle.std.proofs.lemmas.Bool.Decides.{nat_tests}
use Prim.Native.Nat.{zero}
use Rattle.bdb_base.specs.Bases.{Contents, IsValid, empty_contents}
use Rattle.bdb_base.specs.Causes.{Rises}
use Rattle.bdb_base.specs.declared.kinds.RelDef.{RelDef}
use Rattle.bdb_base.specs.declared.kinds.UserSlot.{UserSlot}
use Rattle.bdb_base.specs.SameLemmas.{same_text-Decides}
use Rattle.bdb_canon.specs.declared.sizes.Counts.{Counts}
use Rattle.bdb_catalog.specs.Bases.{StoresValid, StoresSome}
use Rattle.bdb_catalog.specs.Opening.{StandFor, StandForSome, StoredFormerly, IsPartOf}
use Rattle.bdb_decode.specs.Opening.{TellsStand}
use Rattle.bdb_decode.specs.declared.opening.Stand.{Stand}
use Rattle.bdb_decode.specs.declared.opening.Stand.TheVariants.{Empty, Stored, Former}
use Rattle.bdb_decode.proofs.StandLemmas.{one_base_at_most}
use Rattle.bdb_keep.specs.Seen.{Seen, IsStill, Steps, Unchanged}
use Rattle.bdb_keep.specs.Tables.{Tables, bytes_cmp}
use Rattle.bdb_key.specs.Bytes.{num_bytes}
use Rattle.bdb_stored.specs.Counting.{TellsCounts}
use Rattle.bdb_tables.specs.Codec.{place}
use Rattle.bdb_tables.specs.InUse.{meta_codec}
use Rattle.bdb_tables.specs.Stored.{Stores}
use Rattle.bdb_session.specs.declared.error.StopError.{StopError}
use Rattle.bdb_undo.specs.Histories.{nothing_kept}
use Rattle.bdb_undo.specs.Timelines.{started}
use Rattle.bdb_undo.proofs.TimelineLemmas.{nothing_kept_starts}
use Rattle.bdb_session.specs.Known.{Known, Remembers, RemembersSome}
use Rattle.bdb_session.specs.Opening.{is_former, opening, KnowsStored, Opens}

-- ---- what is known of the tables

pub knows_parts : (t : Tables) (users : List UserSlot) (rels : List RelDef) (counts : Counts) → IsPartOf (λ b. b.catalog.users) t users → IsPartOf (λ b. b.catalog.rels) t rels
    → TellsCounts t counts → KnowsStored t (record { catalog = record { rels = rels; users = users }; counts = counts; history = nothing_kept })
knows_parts t users rels counts u r c = λ b h. record {
  agrees = record {
    base = h;
    catalog = ap (λ (us : List UserSlot). record { rels = rels; users = us }) (u b h) ∙ ap (λ (rs : List RelDef). record { rels = rs; users = b.catalog.users }) (r b h);
    counts = c b h;
  };
  history = nothing_kept_starts b;
}

pub empty_is_valid : IsValid empty_contents.catalog empty_contents.stmts
empty_is_valid = record {
  catalog = record { users_differ = refl; users_plain = refl; few_users = refl; rels_differ = refl; rels_valid = refl; few_rels = refl };
  stmts = record { sorted = refl; belong = refl; no_clash = refl; few_stmts = refl; few_tuples = refl; few_worlds = refl };
}

pub remembers_empty : (t : Tables) → Stores t empty_contents
    → Remembers t (record { catalog = empty_contents.catalog; counts = record { worlds = 1; tuples = 0; stmts = 0; rows = 0 }; history = nothing_kept }) (started empty_contents)
remembers_empty t h = record {
  agrees = record { base = record { stored = h; valid = empty_is_valid }; catalog = refl; counts = refl };
  history = nothing_kept_starts empty_contents;
}

-- a session over what was just written knows the base that was
pub agrees_written : (t u : Tables) (b : Contents) (k : Known) → StoresValid t b → u ≡ t → KnowsStored t k → Remembers u k (started b)
agrees_written t u b k h same knows = subst (λ (x : Tables). Remembers x k (started b)) (sym same) (knows b h)

-- ---- reads where nothing runs

pub still_steps : {T E : Type 0} (old new : Seen) (r : Result T E) (fault : E) → IsStill old → OnOk r (new.kept ≡ old.kept) → Steps old new r fault → Unchanged old new
still_steps old new (Ok x) fault still kept h = record { kept = kept; last = h.ok.last; commits = h.ok.commits }
still_steps old new (Err e) fault still kept h = record { kept = h.err.undone ∙ sym still.rest; last = h.err.last; commits = h.err.commits }

pub steps_still : {T E : Type 0} (old new : Seen) (r : Result T E) (fault : E) → IsStill old → OnOk r (new.kept ≡ old.kept) → Steps old new r fault → IsStill new
steps_still old new (Ok x) fault still kept h = record { stopped = h.ok.running ∙ still.stopped; rest = kept ∙ still.rest ∙ sym h.ok.last }
steps_still old new (Err e) fault still kept h = record { stopped = h.err.stopped; rest = h.err.undone ∙ sym h.err.last }

-- ---- the base over which a session is opened

-- the base for which tables stand
abbrev base_of : Stand → Contents
base_of Empty = empty_contents
base_of (Stored b) = b
base_of (Former b) = b

stands_by : (t : Tables) (x : Stand) → TellsStand t x → StandFor t (base_of x)
stands_by t Empty h = inr (inl (h, refl))
stands_by t (Stored b) h = inl h
stands_by t (Former b) h = inr (inr h)

pub some_stand : (t : Tables) (x : Stand) → TellsStand t x → StandForSome t
some_stand t x h = record { base = base_of x; stand = stands_by t x h }

pub none_stand : (t : Tables) (x : Stand) → TellsStand t x → ((b : Contents) → StandFor t b → ⊥) → ⊥
none_stand t x h none = none (base_of x) (stands_by t x h)

-- what is read of tables that store a base
agrees_stored : (t u : Tables) (b : Contents) (r : Result Known StopError) → StoresValid t b → u ≡ t → IfOk r (λ k. KnowsStored t k) → IfOk r (λ k. Remembers u k (started b))
agrees_stored t u b (Ok k) h same knows = subst (λ (x : Tables). Remembers x k (started b)) (sym same) (knows b h)
agrees_stored t u b (Err stop) h same knows = tt

-- a session that agrees with tables on a base for which the old ones stand
opens_on : (t u : Tables) (b : Contents) (r : Result Known StopError) → StandFor t b → IfOk r (λ k. Remembers u k (started b)) → IfOk r (λ k. Opens t u k)
opens_on t u b (Ok k) stands made = λ c other. subst (λ (x : Contents). Remembers u k (started x)) (one_base_at_most t b c stands other) made
opens_on t u b (Err stop) stands made = tt

pub agrees_some : (u : Tables) (b : Contents) (r : Result Known StopError) → IfOk r (λ k. Remembers u k (started b)) → IfOk r (λ k. RemembersSome u k)
agrees_some u b (Ok k) made = record { timeline = started b; remembers = made }
agrees_some u b (Err stop) made = tt

module _ (t u : Tables) (x : Stand) (r : Result Known StopError) (tells : TellsStand t x) where
  is_stand : (y : Stand) → x ≡ y → TellsStand t y
  is_stand y e = subst (TellsStand t) e tells

  pub opened_new : x ≡ Empty → IfOk r (λ k. Remembers u k (started empty_contents)) → IfOk r (λ k. Opens t u k)
  opened_new e made = opens_on t u empty_contents r (stands_by t Empty (is_stand Empty e)) made

  pub opened_read : (b : Contents) → x ≡ Stored b → u ≡ t → IfOk r (λ k. KnowsStored t k) → IfOk r (λ k. Opens t u k)
  opened_read b e same knows = opens_on t u b r (stands_by t (Stored b) (is_stand (Stored b) e)) (agrees_stored t u b r (is_stand (Stored b) e) same knows)

  pub agrees_read : (b : Contents) → x ≡ Stored b → u ≡ t → IfOk r (λ k. KnowsStored t k) → IfOk r (λ k. RemembersSome u k)
  agrees_read b e same knows = agrees_some u b r (agrees_stored t u b r (is_stand (Stored b) e) same knows)

  pub opened_anew : (b : Contents) → x ≡ Former b → IfOk r (λ k. Remembers u k (started b)) → IfOk r (λ k. Opens t u k)
  opened_anew b e made = opens_on t u b r (stands_by t (Former b) (is_stand (Former b) e)) made

pub stored_some : (t : Tables) (x : Stand) (b : Contents) → TellsStand t x → x ≡ Stored b → StoresSome t
stored_some t x b tells e = record { base = b; stores = subst (TellsStand t) e tells }

pub none_stored : (t : Tables) (x : Stand) → TellsStand t x → x ≡ Empty → t ≡ tables.empty
none_stored t x tells e = subst (TellsStand t) e tells

-- ---- how often opening commits

-- how often opening tables with so many rows commits, by the row of the format
abbrev opening_by : Bool → ℕ
opening_by once = if once then 1 else 0

abbrev opening_of : ℕ → Option (List ℕ) → ℕ
opening_of n row = opening_by (nat_eq n 0 || is_former row)

abbrev format_row : Tables → Option (List ℕ)
format_row t = tables.get t (place meta_codec tt)

pub opening_empty : (t : Tables) → t ≡ tables.empty → opening t ≡ 1
opening_empty t e =
    let none : tables.len t ≡ 0 = ap (λ (u : Tables). tables.len u) e ∙ len-empty bytes_cmp (List ℕ) in
    ap (λ n. opening_of n (format_row t)) none

opening_former : (t : Tables) (b : Contents) → StoredFormerly t b → opening t ≡ 1
opening_former t b h =
    let row : format_row t ≡ Some (num_bytes 2) = h.format.rows tt tt in
    let former : is_former (Some (num_bytes 2)) ≡ true = (same_text-Decides (num_bytes 2) (num_bytes 2)).1 refl in
    ap opening_by (or_right (nat_eq (tables.len t) 0) (is_former (format_row t)) (ap is_former row ∙ former))

pub opening_stored : (t : Tables) → StoresSome t → opening t ≡ 0
opening_stored t h = ap (opening_of (tables.len t)) found ∙ by (tables.len t) refl
  where
    found : format_row t ≡ Some (num_bytes 3)
    found = h.stores.stored.stored.format.rows tt tt

    none_in : t ≡ tables.empty → format_row t ≡ None
    none_in e = ap format_row e ∙ get-empty bytes_cmp (place meta_codec tt)

    by : (n : ℕ) → tables.len t ≡ n → opening_of n (Some (num_bytes 3)) ≡ 0
    by zero e = absurd (let both : None ≡ Some (num_bytes 3) = sym (none_in (empty_of_len t e)) ∙ found in cc)
    by (suc n) e = let some : nat_eq (suc n) 0 ≡ false = grind (arith, nat_tests) in ap (λ b. opening_by (b || is_former (Some (num_bytes 3)))) some

module _ (t : Tables) (x : Stand) (tells : TellsStand t x) where
  pub once_new : x ≡ Empty → opening t ≡ 1
  once_new e = opening_empty t (none_stored t x tells e)

  pub none_read : (b : Contents) → x ≡ Stored b → opening t ≡ 0
  none_read b e = opening_stored t (stored_some t x b tells e)

  pub once_anew : (b : Contents) → x ≡ Former b → opening t ≡ 1
  once_anew b e = opening_former t b (subst (TellsStand t) e tells)

pub on_ok : {T : Type 0} (P : Type 0) (r : Result T StopError) → P → OnOk r P
on_ok P (Ok x) p = p
on_ok P (Err e) p = tt

pub rises_none : (o before now : ℕ) → o ≡ 0 → now ≡ before → Rises o before now
rises_none o before now z e = λ _. omega arith

pub rises_once : {T : Type 0} (r : Result T StopError) (o before now : ℕ) → o ≡ 1 → OnOk r (Rises 1 before now) → OnOk r (Rises o before now)
rises_once (Ok x) o before now z h = λ k. let f = h k in omega arith
rises_once (Err stop) o before now z h = tt

pub one_and_none : (o : ℕ) → o ≡ 1 → o ≡ 0 → ⊥
one_and_none o e f = absurd (omega arith)
