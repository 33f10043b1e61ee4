-- Tables hold the rows of the worlds exactly where each row is of a world and a tuple that there are, and the rows of each world pass the test.
use Rattle.std.proofs.Common.{◌≡◌, ◌∙◌, ◌<◌, ◌^◌, ℕ, suc, get_or, arith, Bool, true, false, nat_eq, nat_lt, List, [], ◌∷◌, length, Option, Some, None, MatchOption, cond, inl, inr, is_some, refl, ap, sym, subst}
use Prim.Native.Nat.{zero}
use Rattle.std.specs.Bool.{MatchBool}
use Rattle.std.specs.List.{list_any, AllByRecursion}
use Rattle.std.specs.Option.{option_map}
use Rattle.std.specs.FinMap as tables
use Rattle.std.proofs.lemmas.Bool.{true≢false, false≢true, cases_Bool, or_cases, cond-true, cond-false, eqb-true, ltb-true, lt-ltb}
use Rattle.bdb_base.specs.declared.kinds.Stmt.{Stmt}
use Rattle.bdb_base.specs.declared.tuple.Tuple.{Tuple}
use Rattle.bdb_base.specs.Worlds.{contradicted}
use Rattle.bdb_base.proofs.WorldLemmas.{explicit_tuple}
use Rattle.bdb_base.proofs.OptionLemmas.{some_of, some_mapped}
use Rattle.bdb_base.proofs.AllLemmas.{all_weaker, all_both}
use Rattle.bdb_keep.specs.Tables.{Tables}
use Rattle.bdb_key.specs.Grammar.{IsNum}
use Rattle.bdb_tables.specs.Codec.{TableFits, place}
use Rattle.bdb_tables.specs.Grammar.{InGrammar}
use Rattle.bdb_tables.specs.InUse.{ValKey, IsValKey, depth_codec, tuple_codec, val_codec}
use Rattle.bdb_tables.specs.InUseLaws.{tuple_rows_are_one}
use Rattle.bdb_tables.specs.Marks.{Mark, explicit_sign}
use Rattle.bdb_tables.specs.Names.{Names, AreNames, link_of, path_of}
use Rattle.bdb_tables.specs.Rows.{AreKeyLengths, Tuples, HoldsRows, row_for}
use Rattle.bdb_tables.specs.Writes.{Gives, with_changes}
use Rattle.bdb_tables.proofs.WriteLemmas.{gives_same}
use Rattle.bdb_val.specs.Middle.{worlds_of, HasExplicit, AreSettledBut}
use Rattle.bdb_val.specs.Reads.{AreReadUnder, HasRows, HaveTuples, world_prefix}
use Rattle.bdb_val.specs.Settled.{settled_mark, sign_at}
use Rattle.bdb_val.specs.Settling.{mark_in, next_mark, AreNamed, numbers_are_apart, row_key}
use Rattle.bdb_val.specs.Steps.{IsSettling, rows_made}
use Rattle.bdb_val.specs.declared.stored.StoredRow.{StoredRow}
use Rattle.bdb_val.proofs.HeldLemmas.{names_are_linked, settled_rows_are_held, held_rows_are_explicit, held_rows_are_settled}
use Rattle.bdb_val.proofs.ReadLemmas.{read_named, read_apart, world_span}
use Rattle.bdb_val.proofs.StepLemmas.{own_mark, next_after, settled_after}
use Rattle.bdb_entries.proofs.TupleLemmas.{given_is}
use Rattle.bdb_decode.specs.SettledRows.{AreCandidates, AreKeyed, AreLinkedRows, IsKeyed, TellsRows, TellsWorld, TellsWorlds}
use Rattle.bdb_decode.specs.Settles.{settles}
use Rattle.bdb_decode.proofs.GivenLemmas.{given, given_gives}
use Rattle.bdb_decode.proofs.SettlesLemmas.{settled_next, next_settles}

-- ---- one world, where the explicit rows are the statements

module _ (keys : ℕ → ℕ) (stmts : List Stmt) (ns : Names) (tuple : ℕ → Option Tuple) (f : ValKey → Option Mark) (t : Tables) (names : AreNames ns) (h : HasExplicit keys stmts (worlds_of ns) tuple f t) where
  named_size : (wid : ℕ) (w : List ℕ) → path_of ns wid ≡ Some w → IsNum wid
  named_size wid w e = names.sized w wid (names.named wid w e)

  link_size : (wid : ℕ) (w : List ℕ) → path_of ns wid ≡ Some w → MatchOption (link_of ns wid) (Unit {0}) IsNum
  link_size wid [] e = subst (λ o. MatchOption o (Unit {0}) IsNum) (sym ((names_are_linked ns names).root wid e)) tt
  link_size wid (i ∷ w) e =
      let m = (names_are_linked ns names).link wid i w e in
      subst (λ o. MatchOption o (Unit {0}) IsNum) (sym m.1) (named_size m.0 _ m.2)

  module _ (wid : ℕ) (w : List ℕ) (p : path_of ns wid ≡ Some w) (link : Option ℕ) (l : link_of ns wid ≡ link) (own from : List StoredRow)
      (own_read : AreReadUnder t (world_prefix wid) own) (from_read : MatchOption link (from ≡ []) (λ m. AreReadUnder t (world_prefix m) from)) where
    size : IsNum wid
    size = named_size wid w p

    size_link : MatchOption link (Unit {0}) IsNum
    size_link = subst (λ o. MatchOption o (Unit {0}) IsNum) l (link_size wid w p)

    own_named : AreNamed tuple own
    own_named = read_named keys tuple f t h.rows (world_prefix wid) own own_read

    by_link : (P : List StoredRow → Type 0) → P [] → ((m : ℕ) → IsNum m → AreReadUnder t (world_prefix m) from → P from) → P from
    by_link P none some = go link size_link from_read
      where
        go : (o : Option ℕ) → MatchOption o (Unit {0}) IsNum → MatchOption o (from ≡ []) (λ m. AreReadUnder t (world_prefix m) from) → P from
        go None a b = subst P (sym b) none
        go (Some m) a b = some m a b

    from_named : AreNamed tuple from
    from_named = by_link (AreNamed tuple) tt (λ m n r. read_named keys tuple f t h.rows (world_prefix m) from r)

    own_apart : numbers_are_apart own ≡ true
    own_apart = read_apart keys tuple f t h.rows wid (λ _. true) (world_prefix wid) own (world_span keys wid size) own_read

    from_apart : numbers_are_apart from ≡ true
    from_apart = by_link (λ xs. numbers_are_apart xs ≡ true) refl (λ m n r. read_apart keys tuple f t h.rows m (λ _. true) (world_prefix m) from (world_span keys m n) r)

    -- the tables in which the changes that settle the world are made
    abbrev after : Tables
    after = with_changes val_codec t (rows_made keys wid own from)

    abbrev step : IsSettling keys t after wid link world_prefix
    step = record { own = own; from = from; own_read = own_read; from_read = from_read; written = refl }

    own_row : (tid : ℕ) (u : Tuple) → tuple tid ≡ Some u → mark_in own tid ≡ f (row_key keys wid tid u)
    own_row tid u n = own_mark keys tuple f t h.rows (λ _. true) world_prefix (world_span keys) after wid link size size_link step tid u n refl

    -- the row that a tuple is to have is the settled one
    next_row : (tid : ℕ) (u : Tuple) → tuple tid ≡ Some u
        → next_mark keys own from tid u ≡ settled_mark (explicit_sign stmts w u) (contradicted keys stmts w u) (sign_at (λ m. f (row_key keys m tid u)) (link_of ns wid))
    next_row tid u n =
        sym (next_after keys tuple f t h.rows (λ _. true) world_prefix (world_span keys) after wid link size size_link step tid u n refl)
        ∙ settled_after keys tuple f t h.rows (λ _. true) world_prefix (world_span keys) after wid link size size_link step stmts w (λ i x k e. h.explicit wid w i x p k)
        h.consistent (λ _ _ _ _ _ _. refl) h.numbered tid u n refl
        ∙ ap (λ o. settled_mark (explicit_sign stmts w u) (contradicted keys stmts w u) (sign_at (λ m. f (row_key keys m tid u)) o)) (sym l)

    pub passing_settled : settles keys own from ≡ true → (tid : ℕ) (u : Tuple) → tuple tid ≡ Some u
        → f (row_key keys wid tid u) ≡ settled_mark (explicit_sign stmts w u) (contradicted keys stmts w u) (sign_at (λ m. f (row_key keys m tid u)) (link_of ns wid))
    passing_settled e tid u n = sym (own_row tid u n) ∙ settled_next keys tuple own from own_named from_named e tid u n ∙ next_row tid u n

    pub settled_passing : ((tid : ℕ) (u : Tuple) → tuple tid ≡ Some u
        → f (row_key keys wid tid u) ≡ settled_mark (explicit_sign stmts w u) (contradicted keys stmts w u) (sign_at (λ m. f (row_key keys m tid u)) (link_of ns wid)))
        → settles keys own from ≡ true
    settled_passing k = next_settles keys tuple own from own_named from_named own_apart from_apart (λ tid u n. own_row tid u n ∙ k tid u n ∙ sym (next_row tid u n))

-- ---- all worlds

-- a world of a list, by its number
listed : (P : ℕ × Option ℕ → Type 0) (xs : List (ℕ × Option ℕ)) (wid : ℕ) → AllByRecursion P xs → list_any (λ x. nat_eq x.0 wid) xs ≡ true → (x : ℕ × Option ℕ) × (P x) × (x.0 ≡ wid)
listed P [] wid a e = absurd (false≢true e)
listed P (x ∷ xs) wid a e = elim (or_cases (nat_eq x.0 wid) (list_any (λ y. nat_eq y.0 wid) xs) e) [
  | inl b ↦ (x, a.0, eqb-true x.0 wid b)
  | inr b ↦ listed P xs wid a.1 b
]

module _ (keys : ℕ → ℕ) (stmts : List Stmt) (ns : Names) (ts : Tuples) (worlds : List (ℕ × Option ℕ)) (t : Tables) (c : AreCandidates keys stmts ns ts worlds t) where
  -- a world with a depth has a name
  depth_named : (wid : ℕ) → IsNum wid → is_some (tables.get t (place depth_codec wid)) ≡ is_some (path_of ns wid)
  depth_named wid n = ap is_some (c.depths.rows wid n) ∙ some_mapped depth_codec.row_bytes (option_map (λ w. length w) (path_of ns wid)) ∙ some_mapped (λ w. length w) (path_of ns wid)

  module _ (fits : TableFits val_codec t) (keyed : AreKeyed keys t) where
    abbrev rows : ValKey → Option Mark
    rows = given val_codec t fits

    row_keyed : (k : ValKey) → IsValKey k → is_some (rows k) ≡ true → IsKeyed keys t k
    row_keyed k v s = keyed.each k v (ap is_some ((given_gives val_codec t fits).rows k v) ∙ some_mapped val_codec.row_bytes (rows k) ∙ s)

    explicit_rows : HasExplicit keys stmts (worlds_of ns) ts.tuple rows t
    explicit_rows = record {
      rows = record {
        lengths = keyed.lengths;
        tuples = c.tuples.tuples;
        rows = given_gives val_codec t fits;
        sized = c.tuples.sized;
        keyed = λ k v s.
            let h = row_keyed k v s in
            (h.tuple, given_is tuple_codec tuple_rows_are_one t ts.tuple c.tuples.tuples k.3 v.tuple h.tuple h.stands.in_grammar h.stands.found, h.same);
      };
      sized = λ wid w e. c.names.sized w wid (c.names.named wid w e);
      worlds = λ k v s. sym (depth_named k.0 v.world) ∙ (row_keyed k v s).world;
      explicit = λ wid w tid u p n. c.stated rows (given_gives val_codec t fits) wid w tid u p n;
      numbered = λ w u s e.
          let n = some_of (ts.number u) (c.tuples.stated u ∙ explicit_tuple stmts w u s e) in
          (n.0, c.tuples.numbered u n.0 n.1);
      consistent = c.consistent;
    }

    rows_settled : AllByRecursion (λ x. TellsWorld keys t x true) worlds → AreSettledBut keys stmts (worlds_of ns) ts.tuple rows (λ _ _. false)
    rows_settled all wid tid u n out w p =
        let x = listed (λ x. (link_of ns x.0 ≡ x.1) × TellsWorld keys t x true) worlds wid
        (all_both (λ x. (is_some (path_of ns x.0) ≡ true) × (link_of ns x.0 ≡ x.1)) (λ x. TellsWorld keys t x true) (λ x. (link_of ns x.0 ≡ x.1) × TellsWorld keys t x true) worlds (λ x a b. (a.1, b)) c.linked.each all)
        (c.linked.all wid (ap is_some p)) in
        subst (λ i. rows (row_key keys i tid u) ≡ settled_mark (explicit_sign stmts w u) (contradicted keys stmts w u) (sign_at (λ m. rows (row_key keys m tid u)) (link_of ns i))) x.2
        (passing_settled keys stmts ns ts.tuple rows t c.names explicit_rows x.0.0 w (ap (path_of ns) x.2 ∙ p) x.0.1 x.1.0 x.1.1.own x.1.1.from x.1.1.own_read x.1.1.from_read (sym x.1.1.told) tid u n)

    pub passing_holds : AllByRecursion (λ x. TellsWorld keys t x true) worlds → HoldsRows keys stmts (path_of ns) ts.tuple t
    passing_holds all = settled_rows_are_held keys stmts ns ts.tuple rows t c.names c.states explicit_rows (rows_settled all)

  module _ (lengths : AreKeyLengths keys) (r : HoldsRows keys stmts (path_of ns) ts.tuple t) where
    abbrev held : ValKey → Option Mark
    held = row_for keys stmts (path_of ns) ts.tuple

    held_explicit : HasExplicit keys stmts (worlds_of ns) ts.tuple held t
    held_explicit = held_rows_are_explicit keys stmts ns ts t lengths c.names c.states c.consistent c.tuples r

    pub held_passing : AllByRecursion (λ x. TellsWorld keys t x false → ⊥) worlds
    held_passing = all_weaker (λ x. (is_some (path_of ns x.0) ≡ true) × (link_of ns x.0 ≡ x.1)) (λ x. TellsWorld keys t x false → ⊥) worlds
        (λ x a b.
        let w = some_of (path_of ns x.0) a.0 in
        true≢false (sym (settled_passing keys stmts ns ts.tuple held t c.names held_explicit x.0 w.0 w.1 x.1 a.1 b.own b.from b.own_read b.from_read
        (λ tid u n. held_rows_are_settled keys stmts ns ts t c.names c.states c.consistent c.tuples x.0 tid u n refl w.0 w.1)) ∙ sym b.told))
        c.linked.each

pub rows_told : (keys : ℕ → ℕ) (t : Tables) (worlds : List (ℕ × Option ℕ)) (b : Bool) → TableFits val_codec t → AreKeyed keys t → TellsWorlds keys t worlds b → TellsRows keys t worlds b
rows_told keys t worlds b fits keyed h stmts ns ts c = by b h
  where
    by : (x : Bool) → TellsWorlds keys t worlds x → MatchBool x (HoldsRows keys stmts (path_of ns) ts.tuple t) (HoldsRows keys stmts (path_of ns) ts.tuple t → ⊥)
    by true k = passing_holds keys stmts ns ts worlds t c fits keyed k
    by false k = λ r. k (held_passing keys stmts ns ts worlds t c keyed.lengths r)

-- ---- what is read

pub world_told : (keys : ℕ → ℕ) (t u : Tables) (x : ℕ × Option ℕ) (a b : Bool) → u ≡ t → a ≡ b → TellsWorld keys u x a → TellsWorld keys t x b
world_told keys t u x a b same is h = subst (λ v. TellsWorld keys v x b) same (subst (TellsWorld keys u x) is h)

pub linked_none : (t : Tables) (rows : List StoredRow) → rows ≡ [] → AreLinkedRows t None rows
linked_none t rows none = record { read = none; apart = ap numbers_are_apart none }

pub keyed_tuples : (keys : ℕ → ℕ) (t : Tables) → AreKeyed keys t → HaveTuples t
keyed_tuples keys t keyed k v s = ap is_some (keyed.each k v s).stands.found

module _ (keys : ℕ → ℕ) (t : Tables) (g : InGrammar t) (keyed : AreKeyed keys t) where
  val_fits : TableFits val_codec t
  val_fits k r found = g 11 k r found

  tuple_fits : TableFits tuple_codec t
  tuple_fits k r found = g 4 k r found

  abbrev given_row : ValKey → Option Mark
  given_row = given val_codec t val_fits

  abbrev given_tuple : ℕ → Option Tuple
  given_tuple tid = cond (nat_lt tid (2 ^ 32)) (given tuple_codec t tuple_fits tid) None

  tuple_is : (tid : ℕ) → IsNum tid → given tuple_codec t tuple_fits tid ≡ given_tuple tid
  tuple_is tid n = sym (cond-true (nat_lt tid (2 ^ 32)) (given tuple_codec t tuple_fits tid) None (lt-ltb tid (2 ^ 32) n))

  tuples_given : Gives tuple_codec t given_tuple
  tuples_given = gives_same tuple_codec t (given tuple_codec t tuple_fits) given_tuple tuple_is (given_gives tuple_codec t tuple_fits)

  none_tuple : (o : Option Tuple) (u : Tuple) → o ≡ None → o ≡ Some u → ⊥
  none_tuple o u a b = cc

  given_size : (tid : ℕ) (u : Tuple) → given_tuple tid ≡ Some u → IsNum tid
  given_size tid u e = elim (cases_Bool (nat_lt tid (2 ^ 32))) [
    | inl b ↦ ltb-true tid (2 ^ 32) b
    | inr b ↦ absurd (none_tuple (given_tuple tid) u (cond-false (nat_lt tid (2 ^ 32)) (given tuple_codec t tuple_fits tid) None b) e)
  ]

  rows_given : HasRows keys given_tuple given_row t
  rows_given = record {
    lengths = keyed.lengths;
    tuples = tuples_given;
    rows = given_gives val_codec t val_fits;
    sized = given_size;
    keyed = λ k v s.
        let h = keyed.each k v (ap is_some ((given_gives val_codec t val_fits).rows k v) ∙ some_mapped val_codec.row_bytes (given_row k) ∙ s) in
        (h.tuple, given_is tuple_codec tuple_rows_are_one t given_tuple tuples_given k.3 v.tuple h.tuple h.stands.in_grammar h.stands.found, h.same);
  }

  -- rows of one world that are read are of tuples of their own
  pub keyed_apart : (wid : ℕ) → IsNum wid → (xs : List StoredRow) → AreReadUnder t (world_prefix wid) xs → numbers_are_apart xs ≡ true
  keyed_apart wid size xs r = read_apart keys given_tuple given_row t rows_given wid (λ _. true) (world_prefix wid) xs (world_span keys wid size) r

-- ---- a world of a list, by its place

placed : (xs : List (ℕ × Option ℕ)) (i : ℕ) (d e : ℕ × Option ℕ) → i < length xs → get_or xs i d ≡ get_or xs i e
placed [] i d e lt = absurd (omega arith)
placed (x ∷ xs) zero d e lt = refl
placed (x ∷ xs) (suc i) d e lt = placed xs i d e (omega arith)

pub world_placed : (xs : List (ℕ × Option ℕ)) (i : ℕ) (d : ℕ × Option ℕ) → i < length xs → get_or xs i d ≡ get_or xs i (get_or xs i d)
world_placed xs i d lt = placed xs i d (get_or xs i d) lt
