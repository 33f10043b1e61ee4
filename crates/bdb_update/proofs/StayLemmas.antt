-- Numbers of worlds and of tuples through all steps of a change.
use Rattle.std.proofs.Common.{◌≡◌, ◌∙◌, ℕ, Bool, false, nat_eq, cond, take, suc, List, [], ◌∷◌, length, Option, Some, is_some, refl, ap, sym, subst, arith}
use Rattle.std.specs.FinMap as tables
use Rattle.bdb_base.specs.declared.kinds.RelDef.{RelDef}
use Rattle.bdb_base.specs.declared.kinds.UserSlot.{UserSlot}
use Rattle.bdb_keep.specs.Tables.{Tables}
use Rattle.bdb_key.specs.Bytes.{num_bytes}
use Rattle.bdb_names.proofs.NamedLemmas.{named_path, names_are_one, path_is_told}
use Rattle.bdb_tables.specs.InUse.{led_codec, rel_codec, user_codec}
use Rattle.bdb_tables.specs.Names.{Names, path_of, with_name}
use Rattle.bdb_tables.specs.States.{HoldsStates, IsNamed, IsNextWorld, root, next}
use Rattle.bdb_tables.specs.Stored.{SameBut}
use Rattle.bdb_tables.specs.Writes.{with_change}
use Rattle.bdb_tables.proofs.SameLemmas.{change_same, states_still}
use Rattle.bdb_worlds.specs.Growth.{AddsStates, AreLeast, SameOutside, with_prefixes}
use Rattle.bdb_base.specs.declared.kinds.Stmt.{Stmt}
use Rattle.bdb_update.specs.ChangeLaws.{is_of_worlds}
use Rattle.bdb_update.specs.Joining.{SomeMayJoin, is_of_tuples}
use Rattle.bdb_update.specs.Keeping.{KeepsNames, KeepsTuples, KeepsNumbers, SameNumbers, TakesLeastNames}
use Rattle.bdb_update.proofs.ArriveLemmas.{grown}
use Rattle.bdb_update.proofs.InsertLemmas.{same_back}
use Rattle.bdb_update.proofs.KeepLemmas.{kept_back, kept_by_same}
use Rattle.bdb_update.proofs.TallyLemmas.{rows_alone}

-- ---- what the tables name rests on two of them

module _ (test : ℕ → Bool) (t u : Tables) (depths : test 6 ≡ false) (turned : test 10 ≡ false) (same : SameBut test t u) where
  step_still : (n m i d : ℕ) → IsNextWorld t n m i d → IsNextWorld u n m i d
  step_still n m i d x = record {
    number = x.number;
    from = x.from;
    user = x.user;
    short = x.short;
    led = same 10 (led_codec.key_bytes (n, m, i)) turned ∙ x.led;
    depth = same 6 (num_bytes m) depths ∙ x.depth;
    deeper = same 6 (num_bytes n) depths ∙ x.deeper;
  }

  named_still : {n : ℕ} {w : List ℕ} → IsNamed t n w → IsNamed u n w
  named_still root = root
  named_still (next n m i d w x step) = next n m i d w (named_still x) (step_still n m i d step)

  pub names_still : KeepsNames t u
  names_still n w x = named_still x

-- ---- the least numbers

-- names that give numbers the same paths have the same least numbers
least_alike : (ns ms : Names) → ((n : ℕ) → path_of ns n ≡ path_of ms n) → (path : List ℕ) (len : ℕ) (new : List ℕ) → AreLeast ns path len new → AreLeast ms path len new
least_alike ns ms alike path len [] h = tt
least_alike ns ms alike path len (n ∷ new) h =
    let p = take (suc len) path in (
      record { free = sym (alike n) ∙ h.0.free; least = λ k lt. ap is_some (sym (alike k)) ∙ h.0.least k lt },
      least_alike (with_name ns n p) (with_name ms n p) (λ k. ap (λ (o : Option (List ℕ)). cond (nat_eq k n) (Some p) o) (alike k)) path (suc len) new h.1,
    )

grown_alike : (ns ms : Names) → ((n : ℕ) → path_of ns n ≡ path_of ms n) → (path : List ℕ) (len : ℕ) (new : List ℕ) (n : ℕ)
    → path_of (with_prefixes ns path len new) n ≡ path_of (with_prefixes ms path len new) n
grown_alike ns ms alike path len [] n = alike n
grown_alike ns ms alike path len (m ∷ new) n =
    let p = take (suc len) path in
    grown_alike (with_name ns m p) (with_name ms m p) (λ k. ap (λ (o : Option (List ℕ)). cond (nat_eq k m) (Some p) o) (alike k)) path (suc len) new n

-- worlds come, and then their rows
pub names_least : (t u v : Tables) (x : Stmt) (worlds : ℕ) (new : List ℕ) → AddsStates t u x.path worlds new → SameOutside 6 10 t u → SameBut rows_alone u v → SomeMayJoin t x worlds → TakesLeastNames t v x.path
names_least t u v x worlds new added outside same some s z hs hz =
    let ns = some.stored.names in
    let g = grown t u x worlds new added outside some.base some.stored some.may some.counted in
    let states = states_still rows_alone u v same _ (with_prefixes ns x.path g.stood new) refl refl refl refl refl g.states in
    let alike : (n : ℕ) → path_of ns n ≡ path_of s.names n = names_are_one _ s.users ns s.names t some.stored.stored.states hs in
    record {
      stood = g.stood;
      new = new;
      whole = g.whole;
      least = least_alike ns s.names alike x.path g.stood new g.least;
      names = λ n. names_are_one z.users _ z.names (with_prefixes ns x.path g.stood new) v hz states n ∙ grown_alike ns s.names alike x.path g.stood new n;
    }

-- none come
pub no_names : (t u : Tables) (path : List ℕ) → u ≡ t → TakesLeastNames t u path
no_names t u path e = subst (λ (v : Tables). TakesLeastNames t v path) (sym e) (λ s z hs hz. record {
  stood = length path;
  new = [];
  whole = omega arith;
  least = tt;
  names = λ n. names_are_one z.users s.users z.names s.names t hz hs n;
})

least_still : (test : ℕ → Bool) (t u v : Tables) (path : List ℕ) → test 6 ≡ false → test 7 ≡ false → test 8 ≡ false → test 9 ≡ false → test 10 ≡ false
    → SameBut test u v → TakesLeastNames t u path → TakesLeastNames t v path
least_still test t u v path a b c d e same takes s z hs hz = takes s z hs (states_still test v u (same_back test u v same) z.users z.names a b c d e hz)

-- ---- a statement joins a base

pub insert_least : (t u v w : Tables) (path : List ℕ) → TakesLeastNames t u path → SameBut is_of_tuples u v → SameBut rows_alone v w → TakesLeastNames t w path
insert_least t u v w path takes tuples rows =
    least_still rows_alone t v w path refl refl refl refl refl rows (least_still is_of_tuples t u v path refl refl refl refl refl tuples takes)

pub insert_keeps : (t u v w : Tables) → KeepsNames t u → SameBut is_of_worlds t u → KeepsTuples u v → SameBut is_of_tuples u v → SameBut rows_alone v w → KeepsNumbers t w
insert_keeps t u v w names worlds keeps tuples rows = record {
  worlds = λ n p x. names_still rows_alone v w refl refl rows n p (names_still is_of_tuples u v refl refl tuples n p (names n p x));
  tuples = λ k r e. kept_by_same rows_alone v w refl rows k r (keeps k r (kept_by_same is_of_worlds t u refl worlds k r e));
}

-- ---- a statement leaves a base

pub leave_keeps : (t u v w : Tables) → SameBut rows_alone t u → KeepsNames v u → SameBut is_of_worlds u v → KeepsTuples w v → SameBut is_of_tuples v w → KeepsNumbers w t
leave_keeps t u v w rows names worlds stood tuples = record {
  worlds = λ n p x. names_still rows_alone u t refl refl (same_back rows_alone t u rows) n p (names n p (names_still is_of_tuples w v refl refl (same_back is_of_tuples v w tuples) n p x));
  tuples = λ k r e. kept_back rows_alone t u refl rows k r (kept_back is_of_worlds u v refl worlds k r (stood k r e));
}

-- ---- nothing changes, and one change after another

pub keeps_same : (t u : Tables) → u ≡ t → KeepsNumbers t u
keeps_same t u e = subst (KeepsNumbers t) (sym e) (record { worlds = λ n w x. x; tuples = λ k r found. found })

pub keeps_then : (t u v : Tables) → KeepsNumbers t u → KeepsNumbers u v → KeepsNumbers t v
keeps_then t u v a b = record { worlds = λ n w x. b.worlds n w (a.worlds n w x); tuples = λ k r e. b.tuples k r (a.tuples k r e) }

-- ---- the catalog changes

pub same_itself : (t : Tables) → SameNumbers t t
same_itself t = record { forth = keeps_same t t refl; back = keeps_same t t refl }

-- neither depths of worlds, nor the edges turned round, nor tuples have changed
same_by_rows : (test : ℕ → Bool) (t u : Tables) → test 4 ≡ false → test 6 ≡ false → test 10 ≡ false → SameBut test t u → SameNumbers t u
same_by_rows test t u tuples depths turned same = record {
  forth = record { worlds = names_still test t u depths turned same; tuples = kept_by_same test t u tuples same };
  back = record { worlds = names_still test u t depths turned (same_back test t u same); tuples = kept_back test t u tuples same };
}

-- worlds have the same names, whoever the users are, and tuples have not changed
same_by_names : (users others : ℕ → Bool) (ns : Names) (t u : Tables) → HoldsStates users ns t → HoldsStates others ns u → ((k : List ℕ) → tables.get u (4 ∷ k) ≡ tables.get t (4 ∷ k)) → SameNumbers t u
same_by_names users others ns t u h j same = record {
  forth = record { worlds = λ n w x. path_is_told others ns u j n w (named_path users ns t h x); tuples = λ k r e. same k ∙ e };
  back = record { worlds = λ n w x. path_is_told users ns t h n w (named_path others ns u j x); tuples = λ k r e. sym (same k) ∙ e };
}

-- the row of a relation comes or goes
pub same_by_relation : (t : Tables) (rel : ℕ) (o : Option RelDef) → SameNumbers t (with_change rel_codec t (rel, o))
same_by_relation t rel o =
    let is_relations : ℕ → Bool = λ n. nat_eq n 3 in
    same_by_rows is_relations t (with_change rel_codec t (rel, o)) refl refl refl (change_same rel_codec is_relations t (rel, o) refl)

-- the row of a user changes, and then edges, and worlds have the same names
pub same_by_user : (t m u : Tables) (uid : ℕ) (o : Option UserSlot) (users others : ℕ → Bool) (ns : Names) → m ≡ with_change user_codec t (uid, o) → SameOutside 9 10 m u
    → HoldsStates users ns t → HoldsStates others ns u → SameNumbers t u
same_by_user t m u uid o users others ns put edges h j =
    let is_users : ℕ → Bool = λ n. nat_eq n 2 in
    let row : SameBut is_users t m = subst (SameBut is_users t) (sym put) (change_same user_codec is_users t (uid, o) refl) in
    same_by_names users others ns t u h j (λ k. edges 4 k refl ∙ row 4 k refl)
