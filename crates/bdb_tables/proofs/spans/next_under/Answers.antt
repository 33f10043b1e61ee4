use Rattle.std.proofs.Common.{◌≡◌, ℕ, Bool, true, false, List, ◌++◌, [], ◌∷◌, sym, ap, subst, ◌∙◌, rules}
use Rattle.std.specs.Bool.{MatchBool}
use Rattle.bdb_base.specs.Segments.{is_prefix}
use Rattle.bdb_base.proofs.SegmentLemmas.{is_prefix_begins}
use Rattle.bdb_keep.specs.Tables.{Tables, IsLeastFrom, NoneFrom}
use Rattle.bdb_key.specs.Reading.{Reads}
use Rattle.bdb_tables.specs.Codec.{IsEntryOf}
use Rattle.bdb_tables.proofs.Held.{at_true, held, key_of_entry, row_of_entry}
use Rattle.bdb_tables.proofs.SpanLemmas.{none_beyond, next_is_under}
use Rattle.bdb_tables.proofs.spans.next_under.Given.{Over}
use Rattle.bdb_tables.proofs.spans.next_under.Goals as goal
use Rattle.bdb_tables.proofs.spans.next_under.Goals.{After-deref-4}

-- what the keeper answered where it found a key, from the bytes on that were asked for
least_from : (t : Tables) (n : ℕ) (seen low key row : List ℕ) (b : Bool) → b ≡ true
    → MatchBool b (IsLeastFrom t n seen key row) (NoneFrom t n seen) → seen ≡ low → IsLeastFrom t n low key row
least_from t n seen low key row b e found same =
    subst (λ l. IsLeastFrom t n l key row) same (at_true b (IsLeastFrom t n seen key row) (NoneFrom t n seen) e found)

pub returns-then-not-starts_with-clause-found : goal.returns-then-not-starts_with-clause-found
returns-then-not-starts_with-clause-found g c =
    let t = (g.K.Keeper.seen c.args.keeper.now).kept in
    let n = c.NUMBER.result in
    let low = c.args.low.now.items in
    let key = c.next.new.key.items in
    let row = c.next.new.row.items in
    let beyond : is_prefix c.args.prefix.now key ≡ false =
    ap (is_prefix c.args.prefix.now) (sym c.deref-2.ensures.value) ∙ is_prefix_begins c.args.prefix.now c.deref-2.result.now ∙ sym c.starts_with.ensures.value ∙ c.if-not-starts_with.true in
    none_beyond g.T.Tab.codec t n c.args.prefix.now low key row (c.NUMBER.ensures ∙ sym g.met.T.Tab.number_ok.2) c.requires.from
    (least_from t n c.deref.result.now low key row c.in-Ok-true.field-0 c.in-Ok-true.field-0-test c.in-Ok-true.ensures.found c.deref.ensures.value)
    beyond

-- what the keeper found is an entry of the table
entry : (g : Over) (c : After-deref-4 g) → IsEntryOf g.T.Tab.codec c.next.new.key.items c.next.new.row.items
entry g c =
    let t = (g.K.Keeper.seen c.args.keeper.now).kept in
    let n = c.NUMBER.result in
    let key = c.next.new.key.items in
    let row = c.next.new.row.items in
    let low = c.args.low.now.items in
    let least =
    least_from t n c.deref.result.now low key row c.in-Ok-true.field-0 c.in-Ok-true.field-0-test c.in-Ok-true.ensures.found c.deref.ensures.value in
    held g.T.Tab.codec t c.requires.grammar n key row (c.NUMBER.ensures ∙ sym g.met.T.Tab.number_ok.2) least.found

pub entry_from-requires-clause-key : goal.entry_from-requires-clause-key
entry_from-requires-clause-key g c =
    rw c.deref-3.ensures.value (key_of_entry g.T.Tab.codec c.next.new.key.items c.next.new.row.items (entry g c))

pub entry_from-requires-clause-row : goal.entry_from-requires-clause-row
entry_from-requires-clause-row g c =
    rw c.deref-4.ensures.value (row_of_entry g.T.Tab.codec c.next.new.key.items c.next.new.row.items (entry g c))

pub returns-else-is_err-clause-found : goal.returns-else-is_err-clause-found
returns-else-is_err-clause-found g c =
    let codec = g.T.Tab.codec in
    let t = (g.K.Keeper.seen c.args.keeper.now).kept in
    let n = c.NUMBER.result in
    let key = c.next.new.key.items in
    let row = c.next.new.row.items in
    let e = c.in-Ok.entry in
    let low = c.args.low.now.items in
    let least =
    least_from t n c.deref.result.now low key row c.in-Ok-true.field-0 c.in-Ok-true.field-0-test c.in-Ok-true.ensures.found c.deref.ensures.value in
    let begins : is_prefix c.args.prefix.now key ≡ true =
    ap (is_prefix c.args.prefix.now) (sym c.deref-2.ensures.value) ∙ is_prefix_begins c.args.prefix.now c.deref-2.result.now ∙ sym c.starts_with.ensures.value ∙ c.if-not-starts_with.false in
    let moved : c.push.new.self.items ≡ key ++ 0 ∷ [] = search rules in
    let key_reads : Reads codec.IsKey codec.key_bytes key e.0 = subst (λ b. Reads codec.IsKey codec.key_bytes b e.0) c.deref-3.ensures.value c.in-Ok.ensures.key in
    let row_reads : Reads codec.IsRow codec.row_bytes row e.1 = subst (λ b. Reads codec.IsRow codec.row_bytes b e.1) c.deref-4.ensures.value c.in-Ok.ensures.row in
    next_is_under codec t n c.args.prefix.now low c.swap.new.x.items key row e (c.NUMBER.ensures ∙ sym g.met.T.Tab.number_ok.2)
    least begins key_reads row_reads (ap (λ v. v.items) c.swap.ensures.x_after ∙ moved)
