-- The parts of tables, and the base that they make.
use Rattle.std.proofs.Common.{◌≡◌, ◌∙◌, ◌+◌, ◌<◌, ◌≤◌, ℕ, Bool, true, false, ◌&&◌, ◌||◌, nat_eq, cond, List, [], ◌∷◌, ◌++◌, length, map, take, get_or, Option, Some, None, is_some, refl, ap, sym, subst}
use Rattle.std.specs.Bool.{MatchBool}
use Rattle.std.specs.List.{list_all, list_any, AllByRecursion}
use Rattle.std.specs.Ordering.{is_eq, is_lt, eq_by_cmp, nat_cmp}
use Rattle.std.proofs.lemmas.Bool.{and_parts, and_from, or_left, or_right, eq-eqb, leb-true}
use Rattle.std.proofs.lemmas.List.{map-append, take_more}
use Rattle.bdb_base.specs.Bases.{Contents, is_user, key_lengths}
use Rattle.bdb_base.specs.Limits.{most_users}
use Rattle.bdb_base.specs.SortedSet.{ascending}
use Rattle.bdb_base.specs.declared.kinds.Catalog.{Catalog}
use Rattle.bdb_base.specs.declared.kinds.Stmt.{Stmt}
use Rattle.bdb_base.specs.declared.kinds.UserSlot.{UserSlot}
use Rattle.bdb_base.specs.declared.tuple.Tuple.{Tuple}
use Rattle.bdb_base.specs.OrderLemmas.{is_eq_nat_cmp}
use Rattle.bdb_base.proofs.WorldLemmas.{valid_is_consistent}
use Rattle.bdb_base.proofs.OptionLemmas.{some_of}
use Rattle.bdb_base.proofs.Numbers.{same_number, eq_turned}
use Rattle.bdb_catalog.specs.Bases.{StoresValid}
use Rattle.bdb_keep.specs.Tables.{Tables}
use Rattle.bdb_key.specs.Grammar.{IsNum}
use Rattle.bdb_key.proofs.Readings.{all_push}
use Rattle.bdb_names.proofs.NamedLemmas.{names_are_one}
use Rattle.bdb_tables.specs.Codec.{HasAt}
use Rattle.bdb_tables.specs.InUse.{ValKey, link_codec, tuple_codec, val_codec}
use Rattle.bdb_tables.specs.InUseLaws.{numbers_in_order, number_rows_are_one, tuple_rows_are_one}
use Rattle.bdb_tables.specs.Marks.{Mark}
use Rattle.bdb_tables.specs.Names.{Names, link_of, path_of}
use Rattle.bdb_tables.specs.Rows.{Tuples, HoldsRows, row_named}
use Rattle.bdb_tables.specs.Spans.{IsUnder, entry_cmp}
use Rattle.bdb_tables.specs.States.{HoldsStates}
use Rattle.bdb_tables.specs.Stored.{StoredAs}
use Rattle.bdb_tables.specs.Writes.{Gives}
use Rattle.bdb_tables.proofs.CatalogLemmas.{one_contents, one_relations, one_users}
use Rattle.bdb_tables.proofs.WriteLemmas.{gives_one, gives_same}
use Rattle.bdb_worlds.proofs.ReadLemmas.{found_is}
use Rattle.bdb_entries.specs.Catalog.{HasCatalog}
use Rattle.bdb_entries.specs.Tuples.{AreTuples, HasTuples, HaveNoTuples}
use Rattle.bdb_entries.proofs.ReadLemmas.{past, under_fits}
use Rattle.bdb_entries.proofs.TupleLemmas.{holding, item_all, item_in, items_give}
use Rattle.bdb_graph.specs.Naming.{AreWorlds, names_of, path_in}
use Rattle.bdb_graph.specs.Ups.{HoldNoStates}
use Rattle.bdb_names.specs.declared.named.NamedWorld.{NamedWorld}
use Rattle.bdb_graph.proofs.HeldLemmas.{held_so, named_same, worlds_are_held}
use Rattle.bdb_decode.specs.Explicit.{AreStated, Paths, TupleRows}
use Rattle.bdb_decode.specs.ExplicitLaws.{AreNamedWorlds}
use Rattle.bdb_decode.specs.Items.{item_of, number_cmp}
use Rattle.bdb_decode.specs.Parts.{AreFormed, AreLinks, AreParts, ArePaths, HoldNoneOver, IsLink, StoreNone, TellsRowsOf, path_row}
use Rattle.bdb_decode.specs.SettledRows.{AreCandidates, AreWorldsOf, TellsRows}
use Rattle.bdb_decode.specs.Whole.{AreBaseStatements, AreHeldExplicit, HaveNoBaseStatements}
use Rattle.bdb_decode.proofs.GivenLemmas.{given, given_gives}
use Rattle.bdb_decode.proofs.HeldBaseLemmas.{base_statements_are_held}
use Rattle.bdb_decode.proofs.WholeLemmas.{held_bases_are_stated, held_bases_are_whole}

-- ---- items by number

-- functions that agree at numbers of four bytes, and give nothing at others, agree
same_everywhere : {X : Type 0} (f g : ℕ → Option X) → ((n : ℕ) → IsNum n → f n ≡ g n) → ((n : ℕ) (x : X) → f n ≡ Some x → IsNum n) → ((n : ℕ) (x : X) → g n ≡ Some x → IsNum n)
    → (n : ℕ) → f n ≡ g n
same_everywhere {X} f g same a b n = by (f n) refl (g n) refl
  where
    by : (o : Option X) → f n ≡ o → (p : Option X) → g n ≡ p → f n ≡ g n
    by (Some x) e p d = same n (a n x e)
    by None e (Some y) d = same n (b n y d)
    by None e None d = e ∙ sym d

-- a number has an item where it is one of the numbers
has_number : {X : Type 0} (items : List (ℕ × X)) (n : ℕ) → is_some (item_of items n) ≡ list_any (λ k. nat_eq k n) (map (λ (e : ℕ × X). e.0) items)
has_number [] n = refl
has_number {X} (y ∷ items) n =
    by (eq_by_cmp nat_cmp n y.0) (item_of items n) (list_any (λ k. nat_eq k n) (map (λ (e : ℕ × X). e.0) items)) (has_number items n)
    ∙ ap (λ b. b || list_any (λ k. nat_eq k n) (map (λ (e : ℕ × X). e.0) items)) (eq_turned n y.0)
  where
    by : (b : Bool) (o : Option X) (later : Bool) → is_some o ≡ later → is_some (cond b (Some y.1) o) ≡ (b || later)
    by true o later e = refl
    by false o later e = e

-- ---- tuples

items_are : (rows : TupleRows) (n : ℕ) → item_in tuple_codec rows n ≡ item_of rows n
items_are [] n = refl
items_are (e ∷ rows) n = ap (λ o. cond (is_eq (nat_cmp n e.0)) (Some e.1) o) (items_are rows n)

pub tuples_named : (t : Tables) (rows : TupleRows) (a : AreTuples t rows) (n : ℕ) → a.tuples.tuple n ≡ item_of rows n
tuples_named t rows a n =
    same_everywhere a.tuples.tuple (item_in tuple_codec rows)
    (λ k fits. gives_one tuple_codec tuple_rows_are_one t a.tuples.tuple (item_in tuple_codec rows) a.has.tuples (items_give tuple_codec numbers_in_order t rows a.under) k fits)
    a.has.sized (λ k u e. (item_all tuple_codec same_number (IsUnder tuple_codec []) rows a.under.each k u e).key) n
    ∙ items_are rows n

tuples_above : (e : ℕ × Tuple) (rows : TupleRows) → IsNum e.0 → AllByRecursion (IsUnder tuple_codec []) rows
    → list_all (λ y. is_lt (entry_cmp tuple_codec e y)) rows ≡ true → list_all (λ y. is_lt (number_cmp e y)) rows ≡ true
tuples_above e [] k a h = refl
tuples_above e (y ∷ rows) k a h =
    let p = and_parts (is_lt (entry_cmp tuple_codec e y)) (list_all (λ z. is_lt (entry_cmp tuple_codec e z)) rows) h in
    and_from (is_lt (number_cmp e y)) (list_all (λ z. is_lt (number_cmp e z)) rows) (ap is_lt (sym (numbers_in_order e.0 y.0 k a.0.key)) ∙ p.0) (tuples_above e rows k a.1 p.1)

pub tuples_ascend : (rows : TupleRows) → AllByRecursion (IsUnder tuple_codec []) rows → ascending (entry_cmp tuple_codec) rows ≡ true → ascending number_cmp rows ≡ true
tuples_ascend [] a h = refl
tuples_ascend (e ∷ rows) a h =
    let p = and_parts (list_all (λ y. is_lt (entry_cmp tuple_codec e y)) rows) (ascending (entry_cmp tuple_codec) rows) h in
    and_from (list_all (λ y. is_lt (number_cmp e y)) rows) (ascending number_cmp rows) (tuples_above e rows a.0.key a.1 p.0) (tuples_ascend rows a.1 p.1)

-- ---- worlds

path_is : (worlds : List NamedWorld) (n : ℕ) → path_in worlds n ≡ item_of (map path_row worlds) n
path_is [] n = refl
path_is (x ∷ worlds) n =
    ap (λ o. cond (nat_eq n x.wid) (Some x.path) o) (path_is worlds n) ∙ ap (λ b. cond b (Some x.path) (item_of (map path_row worlds) n)) (sym (is_eq_nat_cmp n x.wid))

paths_above : (k : ℕ) (w : List ℕ) (worlds : List NamedWorld) → list_all (λ y. is_lt (number_cmp (k, w) y)) (map path_row worlds) ≡ list_all (λ n. is_lt (nat_cmp k n)) (map (λ (x : NamedWorld). x.wid) worlds)
paths_above k w [] = refl
paths_above k w (x ∷ worlds) = ap (λ b. is_lt (nat_cmp k x.wid) && b) (paths_above k w worlds)

paths_ascend : (worlds : List NamedWorld) → ascending number_cmp (map path_row worlds) ≡ ascending nat_cmp (map (λ (x : NamedWorld). x.wid) worlds)
paths_ascend [] = refl
paths_ascend (x ∷ worlds) =
    ap (λ b. b && ascending number_cmp (map path_row worlds)) (paths_above x.wid x.path worlds)
    ∙ ap (λ b. list_all (λ n. is_lt (nat_cmp x.wid n)) (map (λ (y : NamedWorld). y.wid) worlds) && b) (paths_ascend worlds)

pub are_paths : (t : Tables) (users : ℕ → Bool) (worlds : List NamedWorld) (paths : Paths) → AreWorlds t worlds → HoldsStates users (names_of worlds) t → paths ≡ map path_row worlds → ArePaths users t paths
are_paths t users worlds paths a h is = record {
  names = names_of worlds;
  paths = record { names = a.names; paths = λ n. path_is worlds n ∙ ap (λ xs. item_of xs n) (sym is) };
  states = h;
  sorted = ap (ascending number_cmp) is ∙ paths_ascend worlds ∙ a.told.sorted;
}

pub no_paths : (t : Tables) (users : ℕ → Bool) → HoldNoStates t → HoldNoneOver users t
no_paths t users h = λ ns held. h users ns held

pub other_paths : (t : Tables) (users : ℕ → Bool) (worlds : List NamedWorld) → AreWorlds t worlds → (HoldsStates users (names_of worlds) t → ⊥) → HoldNoneOver users t
other_paths t users worlds a no_states = λ ns held. no_states (worlds_are_held t users ns worlds a held)

pub worlds_now : (t u : Tables) (worlds now : List NamedWorld) → u ≡ t → now ≡ worlds → AreWorlds t worlds → AreWorlds u now
worlds_now t u worlds now same is a = subst (λ v. AreWorlds v now) (sym same) (subst (AreWorlds t) (sym is) a)

-- whether tables hold the states of worlds
abbrev Tells : (ℕ → Bool) → Tables → List NamedWorld → Bool → Type 0
Tells users t worlds b = MatchBool b (HoldsStates users (names_of worlds) t) (HoldsStates users (names_of worlds) t → ⊥)

tells_now : (t u : Tables) (users : ℕ → Bool) (worlds now : List NamedWorld) (b : Bool) → u ≡ t → now ≡ worlds → Tells users u now b → Tells users t worlds b
tells_now t u users worlds now b same is h = subst (λ v. Tells users v worlds b) same (subst (λ ws. Tells users u ws b) is h)

pub paths_known : (t u : Tables) (users : ℕ → Bool) (worlds now : List NamedWorld) (paths : Paths) (b : Bool) → u ≡ t → now ≡ worlds → AreWorlds t worlds → b ≡ true
    → MatchBool b (HoldsStates users (names_of now) u) (HoldsStates users (names_of now) u → ⊥) → paths ≡ map path_row worlds → ArePaths users t paths
paths_known t u users worlds now paths b same is a good h made = are_paths t users worlds paths a (holding _ _ b good (tells_now t u users worlds now b same is h)) made

pub paths_none : (t u : Tables) (users : ℕ → Bool) (worlds now : List NamedWorld) (b : Bool) → u ≡ t → now ≡ worlds → AreWorlds t worlds → b ≡ false
    → MatchBool b (HoldsStates users (names_of now) u) (HoldsStates users (names_of now) u → ⊥) → HoldNoneOver users t
paths_none t u users worlds now b same is a bad h = other_paths t users worlds a (past _ _ b bad (tells_now t u users worlds now b same is h))

-- ---- suffix links

pub rows_of_told : (keys : ℕ → ℕ) (t u : Tables) (worlds : Paths) (links now : List (ℕ × Option ℕ)) (b : Bool) → u ≡ t → now ≡ links → AreLinks t worlds links → TellsRows keys u now b
    → TellsRowsOf keys t worlds b
rows_of_told keys t u worlds links now b same is linked h = record {
  links = links;
  linked = linked;
  told = subst (λ v. TellsRows keys v links b) same (subst (λ xs. TellsRows keys u xs b) is h);
}

pub links_more : (t : Tables) (worlds : Paths) (k : ℕ) (other row : ℕ × List ℕ) (links after : List (ℕ × Option ℕ)) (x : ℕ × Option ℕ) → k < length worlds → row ≡ get_or worlds k other
    → AreLinks t (take k worlds) links → IsLink t row x → after ≡ links ++ x ∷ [] → AreLinks t (take (k + 1) worlds) after
links_more t worlds k other row links after x l there h one is = record {
  numbers = ap (map (λ (y : ℕ × Option ℕ). y.0)) is ∙ map-append (λ (y : ℕ × Option ℕ). y.0) links (x ∷ []) ∙ ap (λ ns. ns ++ x.0 ∷ []) h.numbers
      ∙ ap (λ n. map (λ (e : ℕ × List ℕ). e.0) (take k worlds) ++ n ∷ []) (one.same ∙ ap (λ (e : ℕ × List ℕ). e.0) there)
      ∙ sym (map-append (λ (e : ℕ × List ℕ). e.0) (take k worlds) (get_or worlds k other ∷ [])) ∙ ap (map (λ (e : ℕ × List ℕ). e.0)) (sym (take_more worlds k other l));
  each = subst (AllByRecursion (λ (y : ℕ × Option ℕ). HasAt link_codec t y.0 y.1)) (sym is) (all_push (λ (y : ℕ × Option ℕ). HasAt link_codec t y.0 y.1) links x h.each one.found);
}

any_number : (links : List (ℕ × Option ℕ)) (n : ℕ) → list_any (λ (x : ℕ × Option ℕ). nat_eq x.0 n) links ≡ list_any (λ k. nat_eq k n) (map (λ (x : ℕ × Option ℕ). x.0) links)
any_number [] n = refl
any_number (x ∷ links) n = ap (λ b. nat_eq x.0 n || b) (any_number links n)

module _ (t : Tables) (worlds : Paths) (users : ℕ → Bool) (ns : Names) (paths : AreNamedWorlds worlds ns) (states : HoldsStates users ns t) (links : List (ℕ × Option ℕ)) (are : AreLinks t worlds links) where
  named_links : (n : ℕ) → is_some (path_of ns n) ≡ list_any (λ (x : ℕ × Option ℕ). nat_eq x.0 n) links
  named_links n =
      ap is_some (paths.paths n) ∙ has_number worlds n ∙ ap (list_any (λ k. nat_eq k n)) (sym are.numbers) ∙ sym (any_number links n)

  linked_each : (xs : List (ℕ × Option ℕ)) → ((n : ℕ) → list_any (λ (x : ℕ × Option ℕ). nat_eq x.0 n) xs ≡ true → is_some (path_of ns n) ≡ true)
      → AllByRecursion (λ (x : ℕ × Option ℕ). HasAt link_codec t x.0 x.1) xs → AllByRecursion (λ (x : ℕ × Option ℕ). (is_some (path_of ns x.0) ≡ true) × (link_of ns x.0 ≡ x.1)) xs
  linked_each [] named h = tt
  linked_each (x ∷ xs) named h =
      let n = named x.0 (or_left (nat_eq x.0 x.0) (list_any (λ (y : ℕ × Option ℕ). nat_eq y.0 x.0) xs) (eq-eqb x.0 x.0 refl)) in
      let w = some_of (path_of ns x.0) n in
      let fits = paths.names.sized w.0 x.0 (paths.names.named x.0 w.0 w.1) in (
        (n, sym (found_is link_codec number_rows_are_one t (link_of ns) states.tables.link x.0 fits x.1 h.0)),
        linked_each xs (λ k e. named k (or_right (nat_eq x.0 k) (list_any (λ (y : ℕ × Option ℕ). nat_eq y.0 k) xs) e)) h.1,
      )

  pub are_worlds_of : AreWorldsOf ns links
  are_worlds_of = record {
    each = linked_each links (λ n e. named_links n ∙ e) are.each;
    all = λ n e. sym (named_links n) ∙ e;
  }

-- ---- a stored base under other names

module _ (t : Tables) (b : Contents) (s : StoresValid t b) (users : ℕ → Bool) (ns : Names) (ts : Tuples) (states : HoldsStates users ns t) (has : HasTuples t ts) where
  abbrev ms : Names
  ms = s.stored.names

  abbrev us : Tuples
  us = s.stored.tuples

  own : StoredAs s.stored.names s.stored.tuples t b
  own = s.stored.stored

  same_paths : (n : ℕ) → path_of ms n ≡ path_of ns n
  same_paths n = names_are_one (is_user b.catalog.users) users ms ns t own.states states n

  same_tuples : (n : ℕ) → us.tuple n ≡ ts.tuple n
  same_tuples n =
      same_everywhere us.tuple ts.tuple (λ k fits. gives_one tuple_codec tuple_rows_are_one t us.tuple ts.tuple own.tuples.tuples has.tuples k fits) own.tuples.sized has.sized n

  same_numbers : (u : Tuple) → ts.number u ≡ us.number u
  same_numbers u = by (ts.number u) refl (us.number u) refl
    where
      by : (o : Option ℕ) → ts.number u ≡ o → (p : Option ℕ) → us.number u ≡ p → ts.number u ≡ us.number u
      by (Some n) e p d = e ∙ sym (own.tuples.named n u (same_tuples n ∙ has.numbered u n e))
      by None e (Some m) d = has.named m u (sym (same_tuples m) ∙ own.tuples.numbered u m d) ∙ sym d
      by None e None d = e ∙ sym d

  pub restored : StoredAs ns ts t b
  restored = record {
    format = own.format;
    users = own.users;
    rels = own.rels;
    tuples = record { tuples = has.tuples; numbers = has.numbers; named = has.named; numbered = has.numbered; sized = has.sized; stated = λ u. ap is_some (same_numbers u) ∙ own.tuples.stated u };
    states = held_so t (is_user b.catalog.users) ms ns own.states states.names (λ n _. same_paths n);
    worlds = λ w. sym (named_same t (is_user b.catalog.users) ms ns own.states states.names (λ n _. same_paths n) w) ∙ own.worlds w;
    rows = gives_same val_codec t _ _
        (λ k _. ap (λ o. row_named (key_lengths b.catalog.rels) b.stmts k o (us.tuple k.3)) (same_paths k.0) ∙ ap (row_named (key_lengths b.catalog.rels) b.stmts k (path_of ns k.0)) (same_tuples k.3)) own.rows;
    plain = own.plain;
    outside = own.outside;
  }

-- ---- parts that tell against a base

pub no_catalog : (t : Tables) → ((c : Catalog) → HasCatalog t c → ⊥) → StoreNone t
no_catalog t h = λ b s. h b.catalog (record { valid = s.valid.catalog; users = s.stored.stored.users; rels = s.stored.stored.rels })

pub no_tuples : (t : Tables) → HaveNoTuples t → StoreNone t
no_tuples t h = λ b s.
    let k = s.stored.stored.tuples in h s.stored.tuples (record { tuples = k.tuples; numbers = k.numbers; named = k.named; numbered = k.numbered; sized = k.sized })

pub same_catalog : (t : Tables) (c : Catalog) (b : Contents) → HasCatalog t c → StoresValid t b → b.catalog ≡ c
same_catalog t c b h s =
    let k = s.stored.stored in
    ap (λ (x : Contents). x.catalog)
    (one_contents b (record { catalog = c; stmts = b.stmts }) (one_users t b.catalog.users c.users k.users h.users s.valid.catalog.few_users h.valid.few_users)
    (one_relations t b.catalog.rels c.rels k.rels h.rels s.valid.catalog.few_rels h.valid.few_rels) refl)

pub few_users : (t : Tables) (c : Catalog) → HasCatalog t c → length c.users ≤ most_users
few_users t c h = leb-true (length c.users) most_users h.valid.few_users

pub no_states : (t : Tables) (c : Catalog) → HasCatalog t c → HoldNoneOver (is_user c.users) t → StoreNone t
no_states t c has h = λ b s. h s.stored.names (subst (λ (x : Catalog). HoldsStates (is_user x.users) s.stored.names t) (same_catalog t c b has s) s.stored.stored.states)

pub no_tuples_now : (t u : Tables) → u ≡ t → HaveNoTuples u → StoreNone t
no_tuples_now t u same h = no_tuples t (subst HaveNoTuples same h)

pub no_states_now : (t u : Tables) (c : Catalog) (users : List UserSlot) → u ≡ t → users ≡ c.users → HasCatalog t c → HoldNoneOver (is_user users) u → StoreNone t
no_states_now t u c users same is has h = no_states t c has (subst (λ v. HoldNoneOver (is_user c.users) v) same (subst (λ xs. HoldNoneOver (is_user xs) u) is h))

pub parts_now : (t u v : Tables) (c : Catalog) (users : List UserSlot) (worlds : Paths) (tuples : TupleRows) → u ≡ t → v ≡ t → users ≡ c.users → HasCatalog t c
    → ArePaths (is_user users) v worlds → AreTuples u tuples → AreParts t c worlds tuples
parts_now t u v c users worlds tuples first second is has states numbered = record {
  catalog = has;
  states = subst (λ w. ArePaths (is_user c.users) w worlds) second (subst (λ xs. ArePaths (is_user xs) v worlds) is states);
  numbered = subst (λ w. AreTuples w tuples) first numbered;
}

-- ---- parts and statements

module _ (t : Tables) (c : Catalog) (worlds : Paths) (tuples : TupleRows) (p : AreParts t c worlds tuples) where
  abbrev ns : Names
  ns = p.states.names

  abbrev ts : Tuples
  ts = p.numbered.tuples

  stored : (b : Contents) → StoresValid t b → StoredAs p.states.names p.numbered.tuples t b
  stored b s = restored t b s (is_user c.users) ns ts p.states.states p.numbered.has

  numbered : (n : ℕ) → p.numbered.tuples.tuple n ≡ item_of tuples n
  numbered n = tuples_named t tuples p.numbered n

  pub in_order : ascending number_cmp tuples ≡ true
  in_order = tuples_ascend tuples p.numbered.under.each p.numbered.under.sorted

  pub not_stated : HaveNoBaseStatements t c worlds tuples → StoreNone t
  not_stated h = λ b s.
      held_bases_are_whole b ns ts t worlds tuples (stored b s) s.valid p.states.paths numbered p.states.sorted in_order
      (subst (λ x. HaveNoBaseStatements t x worlds tuples) (sym (same_catalog t c b p.catalog s)) h)

  module _ (stmts : List Stmt) (a : AreBaseStatements t c worlds tuples stmts) where
    abbrev keys : ℕ → ℕ
    keys = key_lengths c.rels

    held_with : (f : ValKey → Option Mark) → Gives val_codec t f → AreHeldExplicit keys stmts p.states.names p.numbered.tuples f t
    held_with f gives = base_statements_are_held t c worlds tuples stmts ns ts f p.catalog.valid p.states.paths p.numbered.has numbered gives a

    abbrev rows : ValKey → Option Mark
    rows = given val_codec t (under_fits val_codec t a.stated.are.rows a.stated.are.are.under)

    held : AreHeldExplicit keys stmts p.states.names p.numbered.tuples rows t
    held = held_with rows (given_gives val_codec t (under_fits val_codec t a.stated.are.rows a.stated.are.are.under))

    candidates : (links : List (ℕ × Option ℕ)) → AreLinks t worlds links → AreCandidates keys stmts p.states.names p.numbered.tuples links t
    candidates links linked = record {
      names = p.states.paths.names;
      states = λ w e. held.worlds w ∙ e;
      consistent = valid_is_consistent c stmts (record { catalog = p.catalog.valid; stmts = a.whole.valid });
      tuples = held.tuples;
      depths = p.states.states.tables.depth;
      linked = are_worlds_of t worlds (is_user c.users) ns p.states.paths p.states.states links linked;
      stated = λ f gives wid w tid u path tuple. (held_with f gives).explicit.explicit wid w tid u path tuple;
    }

    pub stores : AreFormed t → TellsRowsOf keys t worlds true → StoresValid t (record { catalog = c; stmts = stmts })
    stores formed h = record {
      stored = record {
        names = ns;
        tuples = ts;
        stored = record {
          format = formed.format;
          users = p.catalog.users;
          rels = p.catalog.rels;
          tuples = held.tuples;
          states = p.states.states;
          worlds = held.worlds;
          rows = h.told stmts ns ts (candidates h.links h.linked);
          plain = formed.others.plain;
          outside = formed.others.outside;
        };
      };
      valid = record { catalog = p.catalog.valid; stmts = a.whole.valid };
    }

    pub no_rows : TellsRowsOf keys t worlds false → StoreNone t
    no_rows h = λ b s.
        let k = stored b s in
        let catalog : b.catalog ≡ c = same_catalog t c b p.catalog s in
        let said : AreStated (key_lengths b.catalog.rels) t worlds tuples stmts = subst (λ (x : Catalog). AreStated (key_lengths x.rels) t worlds tuples stmts) (sym catalog) a.stated in
        let same : stmts ≡ b.stmts = held_bases_are_stated b ns ts t worlds tuples stmts k s.valid p.states.paths numbered said in
        h.told stmts ns ts (candidates h.links h.linked)
        (subst (λ xs. HoldsRows keys xs (path_of ns) ts.tuple t) (sym same) (subst (λ (x : Catalog). HoldsRows (key_lengths x.rels) b.stmts (path_of ns) ts.tuple t) catalog k.rows))
