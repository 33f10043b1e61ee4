-- Statements go, then a name goes or comes, then statements come.
use Rattle.std.proofs.Common.{◌≡◌, ◌∙◌, Bool, not, List, refl, sym, ap, subst}
use Rattle.std.specs.List.{list_all}
use Rattle.bdb_base.specs.Bases.{Contents, IsValid, belongs, stands}
use Rattle.bdb_base.specs.Changes.{with_statements, without_statements}
use Rattle.bdb_base.specs.declared.kinds.Catalog.{Catalog}
use Rattle.bdb_base.specs.declared.kinds.Stmt.{Stmt}
use Rattle.bdb_base.proofs.ListLemmas.{list_all-filter}
use Rattle.bdb_canon.specs.Sizes.{counts_of}
use Rattle.bdb_canon.specs.declared.sizes.Counts.{Counts}
use Rattle.bdb_keep.specs.Seen.{Seen}
use Rattle.bdb_keep.specs.Tables.{Tables}
use Rattle.bdb_tables.specs.Stored.{Stores}
use Rattle.bdb_undo.specs.Changes.{Leads, missing_from}
use Rattle.bdb_undo.specs.declared.change.Change.{Change}
use Rattle.bdb_undo.specs.declared.change.Named.{Named}
use Rattle.bdb_undo.specs.declared.change.Named.TheVariants.{Nothing, UserAdded, RelationAdded, UserDropped}
use Rattle.bdb_undo.proofs.StatementLemmas.{exchanged, left_is_valid_after}
use Rattle.bdb_update.specs.Calls.{StoresSized, none_comes_again, with_stmts}
use Rattle.bdb_update.specs.Keeping.{SameNumbers}
use Rattle.bdb_update.specs.Replacing.{Come, Go, MayCome, MayGo, SomeMayCome, SomeMayGo}
use Rattle.bdb_update.specs.Steps.{ComesThrough, GoesThrough}
use Rattle.bdb_update.proofs.LengthLemmas.{counts_stay}
use Rattle.bdb_update.proofs.TakenLemmas.{taken_apart, taken_stand}
use Rattle.bdb_return.specs.Naming.{GetsName, IsBetween, LosesName, MayGetName, MayLoseName, SomeMayGetName, SomeMayLoseName, base_named, WritesGain, WritesLoss}
use Rattle.bdb_return.specs.Returning.{BackThrough, ForthThrough, GoesBack, GoesForth, MayGoBack, MayGoForth, SomeMayGoBack, SomeMayGoForth, WritesBetween}

abbrev base_of : Catalog → List Stmt → Contents
base_of k stmts = record { catalog = k; stmts = stmts }

-- ---- from one list of statements to another

module _ (from to : Contents) (out inn : List Stmt) (v : IsValid from.catalog from.stmts) (w : IsValid to.catalog to.stmts)
    (goes : out ≡ missing_from to.stmts from.stmts) (comes : inn ≡ missing_from from.stmts to.stmts) where
  abbrev left : List Stmt
  left = without_statements from.stmts out

  pub may_go : (t : Tables) (counts : Counts) → StoresSized t counts from → MayGo t counts out from
  may_go t counts h =
      let q : Stmt → Bool = λ x. not (stands to.stmts x) in
      record {
        base = h;
        stand = ap (list_all (stands from.stmts)) goes ∙ taken_stand q from.stmts;
        apart = ap none_comes_again goes ∙ taken_apart q from.stmts v.stmts.sorted;
      }

  -- the statements that are left
  left_is : left ≡ without_statements from.stmts (missing_from to.stmts from.stmts)
  left_is = ap (without_statements from.stmts) goes

  -- the base in the middle is valid under the names afterwards
  pub valid_after : IsValid to.catalog left
  valid_after = subst (IsValid to.catalog) (sym left_is) (left_is_valid_after to.catalog from.stmts to.stmts v.stmts.sorted w)

  -- and those that come make all of the next
  pub all_are_there : with_statements left inn ≡ to.stmts
  all_are_there =
      ap (λ xs. with_statements xs inn) left_is ∙ ap (with_statements (without_statements from.stmts (missing_from to.stmts from.stmts))) comes
      ∙ exchanged from.stmts to.stmts v.stmts.sorted w.stmts.sorted

  pub may_come : (t : Tables) (counts : Counts) → Stores t (base_of to.catalog left) → counts ≡ counts_of (base_of to.catalog left) → MayCome t counts inn (base_of to.catalog left)
  may_come t counts s c = record {
    base = record { stored = s; valid = valid_after; counted = c };
    belong = ap (list_all (belongs to.catalog)) comes ∙ list_all-filter (belongs to.catalog) (λ x. not (stands from.stmts x)) to.stmts w.stmts.belong;
    next = subst (IsValid to.catalog) (sym all_are_there) w;
  }

  pub has_come : (t u : Tables) (counts after : Counts) → MayCome t counts inn (base_of to.catalog left) → Come t u counts after inn → StoresSized u after to
  has_come t u counts after m c = subst (λ xs. StoresSized u after (base_of to.catalog xs)) all_are_there (c (base_of to.catalog left) m)

-- ---- the names of a change, in a base in the middle

sizes_stay : (n : Named) (a : Contents) → IsValid a.catalog a.stmts → counts_of (base_named n a) ≡ counts_of a
sizes_stay Nothing a v = refl
sizes_stay (UserAdded name) a v = refl
sizes_stay (RelationAdded def) a v = sym (counts_stay a def v.stmts.belong)
sizes_stay (UserDropped uid name) a v = refl

module _ (c : Change) (a b : Contents) (l : Leads c a b) (xs : List Stmt) (v : IsValid a.catalog xs) where
  -- statements are of the same sizes under the names before a change and after it
  same_sizes : counts_of (base_of b.catalog xs) ≡ counts_of (base_of a.catalog xs)
  same_sizes = ap (λ (k : Catalog). counts_of (base_of k xs)) l.forth ∙ sizes_stay c.named (base_of a.catalog xs) v

  -- what a change named can be done to statements that are valid before it and after it
  between : IsValid b.catalog xs → IsBetween c.named (base_of a.catalog xs)
  between w = record { can = l.can; before = v; after = subst (λ (k : Catalog). IsValid k xs) l.forth w }

-- ---- back: the statements that came go, and those that went come

module _ (t : Tables) (counts : Counts) (c : Change) (out : List Stmt) (goes : out ≡ c.come) where
  back_go : (a b : Contents) → MayGoBack t counts c a b → MayGo t counts out b
  back_go a b h = may_go b a out c.gone h.leads.after h.leads.before (goes ∙ h.leads.come) h.leads.gone t counts h.base

  pub some_go_back : SomeMayGoBack t counts c → SomeMayGo t counts out
  some_go_back s = record { base = s.to; may = back_go s.from s.to s.may }

  module _ (m : Tables) (mid : Counts) (went : Go t m counts mid out) where
    back_left : (a b : Contents) → MayGoBack t counts c a b → StoresSized m mid (with_stmts b (without_statements b.stmts out))
    back_left a b h = went b (back_go a b h)

    back_name : (a b : Contents) → MayGoBack t counts c a b → MayLoseName m c.named (base_of a.catalog (without_statements b.stmts out))
    back_name a b h =
        let l = h.leads in
        let xs = without_statements b.stmts out in
        let s = back_left a b h in
        record {
          stored = subst (λ (k : Catalog). Stores m (base_of k xs)) l.forth s.stored;
          between = between c a b l xs (valid_after b a out c.gone l.after l.before (goes ∙ l.come) l.gone) s.valid;
        }

    pub some_lose : SomeMayGoBack t counts c → SomeMayLoseName m c.named
    some_lose s = record { base = base_of s.from.catalog (without_statements s.to.stmts out); may = back_name s.from s.to s.may }

    module _ (k : Tables) (loses : LosesName m k c.named) (inn : List Stmt) (comes : inn ≡ c.gone) where
      back_come : (a b : Contents) → MayGoBack t counts c a b → MayCome k mid inn (base_of a.catalog (without_statements b.stmts out))
      back_come a b h =
          let l = h.leads in
          let xs = without_statements b.stmts out in
          let n = back_name a b h in
          may_come b a out inn l.after l.before (goes ∙ l.come) (comes ∙ l.gone) k mid (loses (base_of a.catalog xs) n)
          ((back_left a b h).counted ∙ same_sizes c a b l xs n.between.before)

      pub some_come_back : SomeMayGoBack t counts c → SomeMayCome k mid inn
      some_come_back s = record { base = base_of s.from.catalog (without_statements s.to.stmts out); may = back_come s.from s.to s.may }

      pub went_back : (u : Tables) (after : Counts) → Come k u mid after inn → GoesBack t u counts after c
      went_back u after came a b h =
          let l = h.leads in
          has_come b a out inn l.after l.before (goes ∙ l.come) (comes ∙ l.gone) k u mid after (back_come a b h) came

-- ---- forth: the statements that went go again, and those that came come

module _ (t : Tables) (counts : Counts) (c : Change) (out : List Stmt) (goes : out ≡ c.gone) where
  forth_go : (a b : Contents) → MayGoForth t counts c a b → MayGo t counts out a
  forth_go a b h = may_go a b out c.come h.leads.before h.leads.after (goes ∙ h.leads.gone) h.leads.come t counts h.base

  pub some_go_forth : SomeMayGoForth t counts c → SomeMayGo t counts out
  some_go_forth s = record { base = s.from; may = forth_go s.from s.to s.may }

  module _ (m : Tables) (mid : Counts) (went : Go t m counts mid out) where
    forth_left : (a b : Contents) → MayGoForth t counts c a b → StoresSized m mid (with_stmts a (without_statements a.stmts out))
    forth_left a b h = went a (forth_go a b h)

    forth_name : (a b : Contents) → MayGoForth t counts c a b → MayGetName m c.named (with_stmts a (without_statements a.stmts out))
    forth_name a b h =
        let l = h.leads in
        let s = forth_left a b h in
        record {
          stored = s.stored;
          between = between c a b l (without_statements a.stmts out) s.valid (valid_after a b out c.come l.before l.after (goes ∙ l.gone) l.come);
        }

    pub some_get : SomeMayGoForth t counts c → SomeMayGetName m c.named
    some_get s = record { base = with_stmts s.from (without_statements s.from.stmts out); may = forth_name s.from s.to s.may }

    module _ (k : Tables) (gets : GetsName m k c.named) (inn : List Stmt) (comes : inn ≡ c.come) where
      forth_come : (a b : Contents) → MayGoForth t counts c a b → MayCome k mid inn (base_of b.catalog (without_statements a.stmts out))
      forth_come a b h =
          let l = h.leads in
          let xs = without_statements a.stmts out in
          let n = forth_name a b h in
          may_come a b out inn l.before l.after (goes ∙ l.gone) (comes ∙ l.come) k mid
          (subst (λ (k2 : Catalog). Stores k (base_of k2 xs)) (sym l.forth) (gets (base_of a.catalog xs) n))
          ((forth_left a b h).counted ∙ sym (same_sizes c a b l xs n.between.before))

      pub some_come_forth : SomeMayGoForth t counts c → SomeMayCome k mid inn
      some_come_forth s = record { base = base_of s.to.catalog (without_statements s.from.stmts out); may = forth_come s.from s.to s.may }

      pub went_forth : (u : Tables) (after : Counts) → Come k u mid after inn → GoesForth t u counts after c
      went_forth u after came a b h =
          let l = h.leads in
          has_come a b out inn l.before l.after (goes ∙ l.gone) (comes ∙ l.come) k u mid after (forth_come a b h) came

-- ---- how often is written

-- of the statements that went and came, and of lists that are equal to them, the same is told
written_for : (n : Named) (from to : Contents) (out inn gone come : List Stmt) (old new : Seen) → out ≡ gone → inn ≡ come
    → WritesBetween n from to out inn old new → WritesBetween n from to gone come old new
written_for n from to out inn gone come old new goes comes w =
    subst (λ xs. WritesBetween n from to xs come old new) goes (subst (λ xs. WritesBetween n from to out xs old new) comes w)

pub back_through : (old left named new : Seen) (counts mid : Counts) (c : Change) (out inn : List Stmt) → out ≡ c.come → inn ≡ c.gone
    → Go old.kept left.kept counts mid out → LosesName left.kept named.kept c.named → GoesThrough counts out old left → WritesLoss left named c.named
    → SameNumbers left.kept named.kept → ComesThrough mid inn named new → BackThrough counts c old new
back_through old left named new counts mid c out inn outs inns went loses goes name keeps comes a b h =
    let middle = base_of a.catalog (without_statements b.stmts out) in
    let there = back_come old.kept counts c out outs left.kept mid went named.kept loses inn inns a b h in
    written_for c.named b a out inn c.come c.gone old new outs inns (record {
      left = left;
      named = named;
      gone = goes b (back_go old.kept counts c out outs a b h);
      name = name middle (back_name old.kept counts c out outs left.kept mid went a b h);
      stored = there.base.stored;
      numbers = keeps;
      come = comes middle there;
    })

pub forth_through : (old left named new : Seen) (counts mid : Counts) (c : Change) (out inn : List Stmt) → out ≡ c.gone → inn ≡ c.come
    → Go old.kept left.kept counts mid out → GetsName left.kept named.kept c.named → GoesThrough counts out old left → WritesGain left named c.named
    → SameNumbers left.kept named.kept → ComesThrough mid inn named new → ForthThrough counts c old new
forth_through old left named new counts mid c out inn outs inns went gets goes name keeps comes a b h =
    let there = forth_come old.kept counts c out outs left.kept mid went named.kept gets inn inns a b h in
    written_for c.named a b out inn c.gone c.come old new outs inns (record {
      left = left;
      named = named;
      gone = goes a (forth_go old.kept counts c out outs a b h);
      name = name (base_of a.catalog (without_statements a.stmts out)) (forth_name old.kept counts c out outs left.kept mid went a b h);
      stored = there.base.stored;
      numbers = keeps;
      come = comes (base_of b.catalog (without_statements a.stmts out)) there;
    })
