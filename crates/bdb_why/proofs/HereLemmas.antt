-- What is read of the world of a path that is a state: the explicit tuples of one relation and key, with either sign.
use Rattle.std.proofs.Common.{◌≡◌, ◌∙◌, ℕ, zero, suc, ◌+◌, ◌*◌, ◌<◌, ◌≤◌, Bool, true, nat_le, List, [], ◌∷◌, length, map, filter, take, Option, Some, None, is_some, refl, sym, subst, arith}
use Rattle.std.specs.List.{list_any, slice_get, AllByRecursion}
use Rattle.std.proofs.lemmas.Bool.{and_parts, false≢true, leb-true}
use Rattle.bdb_base.specs.Bases.{Contents, fits_columns, fits_definition, fits_kind, fits_relation}
use Rattle.bdb_base.specs.Clash.{key_of, same_key}
use Rattle.bdb_base.specs.Limits.{most_relations}
use Rattle.bdb_base.specs.Order.{statement_cmp}
use Rattle.bdb_base.specs.OrderLemmas.{statement_exact}
use Rattle.bdb_base.specs.Same.{same_tuple}
use Rattle.bdb_base.specs.SortedSet.{ascending, put_all}
use Rattle.bdb_base.specs.Worlds.{explicit}
use Rattle.bdb_base.specs.declared.kinds.ColDef.{ColDef}
use Rattle.bdb_base.specs.declared.kinds.Kind.{Kind}
use Rattle.bdb_base.specs.declared.kinds.Kind.TheVariants as kind
use Rattle.bdb_base.specs.declared.kinds.RelDef.{RelDef}
use Rattle.bdb_base.specs.declared.kinds.Sign.{Sign}
use Rattle.bdb_base.specs.declared.kinds.Sign.TheVariants.{Plus, Minus}
use Rattle.bdb_base.specs.declared.kinds.Stmt.{Stmt}
use Rattle.bdb_base.specs.declared.kinds.Value.{Value}
use Rattle.bdb_base.specs.declared.kinds.Value.TheVariants.{Int, Text}
use Rattle.bdb_base.specs.declared.tuple.Tuple.{Tuple}
use Rattle.bdb_base.proofs.ClashLemmas.{same_key_turned}
use Rattle.bdb_base.proofs.ListLemmas.{length-filter_le}
use Rattle.bdb_base.proofs.SetLemmas.{put_all_is_ascending}
use Rattle.bdb_keep.specs.Seen.{Seen}
use Rattle.bdb_keep.specs.Tables.{Tables}
use Rattle.bdb_key.specs.Grammar.{IsNum, HasEightBytes, IsPlainValue, ArePlain, AreKeyVals}
use Rattle.bdb_tables.specs.InUse.{val_codec}
use Rattle.bdb_tables.specs.Lengths.{IsKeyLength}
use Rattle.bdb_tables.specs.Names.{Names, path_of}
use Rattle.bdb_tables.specs.Rows.{AreKeyLengths, Tuples}
use Rattle.bdb_tables.specs.Spans.{AreUnder}
use Rattle.bdb_tables.specs.Stored.{StoredAs}
use Rattle.bdb_tables.specs.GroupMarks.{group_bytes}
use Rattle.bdb_update.specs.Keys.{keys_of}
use Rattle.bdb_update.proofs.KeyLemmas.{key_by_length, key_short, lengths_fit}
use Rattle.bdb_update.proofs.OneStored.{consistent}
use Rattle.bdb_val.specs.Reads.{IsSpan, is_of_group}
use Rattle.bdb_val.proofs.ReadLemmas.{group_span}
use Rattle.bdb_catalog.specs.Bases.{StoresValid}
use Rattle.bdb_catalog.specs.Taking.{AreTuplesRead, AreTuplesOf, is_said}
use Rattle.bdb_catalog.proofs.RowLemmas.{as_many, rows_within, stated_are_read, tuples_are_stated}
use Rattle.bdb_why.specs.Ends.{near_at}
use Rattle.bdb_why.specs.Reading.{PutsNear, ReadsHere, with_both}
use Rattle.bdb_why.specs.Stored.{rows_of_key}
use Rattle.bdb_why.proofs.NearSetLemmas.{both_are_near, made}

-- ---- the values of a tuple that fits its relation are plain

kind_plain : (k : Kind) (v : Value) → fits_kind k v ≡ true → HasEightBytes v → IsPlainValue v
kind_plain kind.Int (Int n) e w = w
kind_plain kind.Int (Text t) e w = absurd (false≢true e)
kind_plain kind.Text (Int n) e w = absurd (false≢true e)
kind_plain kind.Text (Text t) e w = e

columns_plain : (n : ℕ) (cs : List ColDef) (vs : List Value) → fits_columns cs vs ≡ true → AllByRecursion HasEightBytes (take n vs) → ArePlain (take n vs)
columns_plain zero cs vs e w = tt
columns_plain (suc n) cs [] e w = tt
columns_plain (suc n) [] (v ∷ vs) e w = absurd (false≢true e)
columns_plain (suc n) (c ∷ cs) (v ∷ vs) e w =
    let k = and_parts (fits_kind c.kind v) (fits_columns cs vs) e in (kind_plain c.kind v k.0 w.0, columns_plain n cs vs k.1 w.1)

key_plain : (rels : List RelDef) (n : ℕ) (u : Tuple) → fits_relation rels u ≡ true → AllByRecursion HasEightBytes (take n u.vals) → ArePlain (take n u.vals)
key_plain rels n u e w = by (slice_get rels u.rel) e
  where
    by : (o : Option RelDef) → fits_definition o u.vals ≡ true → ArePlain (take n u.vals)
    by None f = absurd (false≢true f)
    by (Some def) f = columns_plain n def.cols u.vals f w

-- ---- the relation's number is small

found_within : (rels : List RelDef) (n : ℕ) → is_some (slice_get rels n) ≡ true → n < length rels
found_within [] n e = absurd (false≢true e)
found_within (d ∷ rels) zero e = omega arith
found_within (d ∷ rels) (suc n) e = let k = found_within rels n e in omega arith

fits_some : (o : Option RelDef) (vs : List Value) → fits_definition o vs ≡ true → is_some o ≡ true
fits_some None vs e = e
fits_some (Some def) vs e = refl

relation_small : (rels : List RelDef) (u : Tuple) → nat_le (length rels) most_relations ≡ true → fits_relation rels u ≡ true → IsNum u.rel
relation_small rels u few e =
    let k = found_within rels u.rel (fits_some (slice_get rels u.rel) u.vals e) in
    let l = leb-true (length rels) most_relations few in
    omega arith

-- ---- one world

twice : (a b n m k : ℕ) → b ≤ a + (n + m + 1) → m ≤ n → n ≤ k → b ≤ a + (2 * k + 1)
twice a b n m k le few within = omega arith

module _ (t : Tables) (wid : ℕ) (w : List ℕ) (u : Tuple) (b : Contents) (h : StoresValid t b) (whole : AllByRecursion HasEightBytes (key_of (keys_of b) u))
    (fits : fits_relation b.catalog.rels u ≡ true) (path : path_of h.stored.names wid ≡ Some w) where
  abbrev ns : Names
  ns = h.stored.names

  abbrev ts : Tuples
  ts = h.stored.tuples

  abbrev begin : List ℕ
  begin = group_bytes wid u.rel (key_of (keys_of b) u)

  abbrev test : Tuple → Bool
  test = is_of_group (keys_of b) u.rel (key_of (keys_of b) u)

  stored : StoredAs ns ts t b
  stored = h.stored.stored

  small : IsNum wid
  small = stored.states.names.sized w wid (stored.states.names.named wid w path)

  lengths : AreKeyLengths (keys_of b)
  lengths = lengths_fit t b.catalog.rels stored.rels

  plain : AreKeyVals (key_of (keys_of b) u)
  plain = record { short = key_short (keys_of b u.rel) u (key_of (keys_of b) u) (lengths u.rel (relation_small b.catalog.rels u h.valid.catalog.few_rels fits)) refl; plain = key_plain b.catalog.rels (keys_of b u.rel) u fits whole }

  span : IsSpan (keys_of b) wid test begin
  span = group_span (keys_of b) lengths wid u.rel (key_of (keys_of b) u) small (relation_small b.catalog.rels u h.valid.catalog.few_rels fits) plain

  near : (x : Tuple) (s : Sign) → explicit b.stmts w x s ≡ true → test x ≡ true → same_key (keys_of b) u x ≡ true
  near x s e a = same_key_turned (keys_of b) u x ∙ a

  tested : (x : Tuple) → same_key (keys_of b) u x ≡ true → test x ≡ true
  tested x k = same_key_turned (keys_of b) x u ∙ k

  module _ (s : Sign) (old new : Seen) (same : old.kept ≡ t) (us : List Tuple) (read : AreTuplesRead old new begin s us) where
    under : AreUnder val_codec t begin read.rows
    under = subst (λ k. AreUnder val_codec k begin read.rows) same read.under

    told : AreTuplesOf t (filter (is_said s) read.rows) us
    told = subst (λ k. AreTuplesOf k (filter (is_said s) read.rows) us) same read.told

    each : AllByRecursion (λ x. (explicit b.stmts w x s ≡ true) × (test x ≡ true)) us
    each = tuples_are_stated (keys_of b) b.stmts ns ts t lengths (consistent b h.valid) stored.tuples stored.rows wid small w path s test begin span read.rows us under told

    all : (x : Tuple) → explicit b.stmts w x s ≡ true → test x ≡ true → list_any (same_tuple x) us ≡ true
    all = stated_are_read (keys_of b) b.stmts ns ts t lengths (consistent b h.valid) stored.tuples stored.rows wid small w path s test begin span read.rows us under told

    few_tuples : length us ≤ length read.rows
    few_tuples = subst (λ n. n ≤ length read.rows) (sym (as_many t (filter (is_said s) read.rows) us told)) (length-filter_le (is_said s) read.rows)

    few_rows : length read.rows ≤ length (rows_of_key (keys_of b) b.stmts u w)
    few_rows = rows_within (keys_of b) b.stmts ns ts t lengths (consistent b h.valid) stored.tuples stored.rows wid small w path s test begin span read.rows under

    spent : new.reads ≤ old.reads + (2 * length (rows_of_key (keys_of b) b.stmts u w) + 1)
    spent = twice old.reads new.reads (length read.rows) (length us) (length (rows_of_key (keys_of b) b.stmts u w)) read.reads few_tuples few_rows

  module _ (old mid new : Seen) (first : old.kept ≡ t) (again : mid.kept ≡ t) (said denied : List Tuple) (say : AreTuplesRead old mid begin Plus said) (deny : AreTuplesRead mid new begin Minus denied) where
    both_put : (xs : List Stmt) → ascending statement_cmp xs ≡ true → with_both w xs said denied ≡ put_all statement_cmp xs (near_at (keys_of b) b.stmts u w)
    both_put = both_are_near (keys_of b) b.stmts w u test near tested said denied
        (each Plus old mid first said say) (each Minus mid new again denied deny) (all Plus old mid first said say) (all Minus mid new again denied deny)

    both_spent : new.reads ≤ old.reads + (4 * length (rows_of_key (keys_of b) b.stmts u w) + 2)
    both_spent = let one = spent Plus old mid first said say in let two = spent Minus mid new again denied deny in omega arith

-- ---- whichever base it is

module _ (old mid new : Seen) (again : mid.kept ≡ old.kept) (wid : ℕ) (w : List ℕ) (u : Tuple) (n : ℕ) (long : IsKeyLength old.kept u.rel n) (whole : AllByRecursion HasEightBytes (key_of (λ _. n) u))
    (said denied : List Tuple) (say : AreTuplesRead old mid (group_bytes wid u.rel (key_of (λ _. n) u)) Plus said) (deny : AreTuplesRead mid new (group_bytes wid u.rel (key_of (λ _. n) u)) Minus denied) where
  module _ (b : Contents) (h : StoresValid old.kept b) where
    own_key : key_of (λ _. n) u ≡ key_of (keys_of b) u
    own_key = key_by_length (keys_of b) n u (long b.catalog.rels h.stored.stored.rels)

    own_whole : AllByRecursion HasEightBytes (key_of (keys_of b) u)
    own_whole = subst (AllByRecursion HasEightBytes) own_key whole

    own_say : AreTuplesRead old mid (group_bytes wid u.rel (key_of (keys_of b) u)) Plus said
    own_say = subst (λ (vs : List Value). AreTuplesRead old mid (group_bytes wid u.rel vs) Plus said) own_key say

    own_deny : AreTuplesRead mid new (group_bytes wid u.rel (key_of (keys_of b) u)) Minus denied
    own_deny = subst (λ (vs : List Value). AreTuplesRead mid new (group_bytes wid u.rel vs) Minus denied) own_key deny

  -- what was read of a world, put into a set
  pub puts_near : (xs ys : List Stmt) → ascending statement_cmp xs ≡ true → ys ≡ with_both w xs said denied → PutsNear old.kept wid w u xs ys
  puts_near xs ys up put b h fits path = put ∙ both_put old.kept wid w u b h (own_whole b h) fits path old mid new refl again said denied (own_say b h) (own_deny b h) xs up

  pub reads_here : ReadsHere old.kept wid w u old.reads new.reads
  reads_here b h fits path = both_spent old.kept wid w u b h (own_whole b h) fits path old mid new refl again said denied (own_say b h) (own_deny b h)

pub both_ascend : (w : List ℕ) (xs : List Stmt) (said denied : List Tuple) → ascending statement_cmp xs ≡ true → ascending statement_cmp (with_both w xs said denied) ≡ true
both_ascend w xs said denied up =
    put_all_is_ascending statement_exact (put_all statement_cmp xs (map (made w Plus) said)) (map (made w Minus) denied)
    (put_all_is_ascending statement_exact xs (map (made w Plus) said) up)
