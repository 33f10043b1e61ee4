use Rattle.std.proofs.Common.{◌≡◌, ◌∙◌, ◌+◌, ◌++◌, true, false, length, List, ℕ, sym, ap, subst}
use Rattle.std.specs.List.{list_all}
use Rattle.bdb_base.specs.declared.kinds.Cond.{Cond}
use Rattle.bdb_key.specs.Bytes.{num_bytes, values_bytes}
use Rattle.bdb_key.specs.Grammar.{ArePlain}
use Rattle.bdb_tables.specs.Grammar.{InGrammar}
use Rattle.bdb_tables.specs.Lengths.{IsKeyLength}
use Rattle.bdb_base.specs.Bases.{is_written}
use Rattle.bdb_tables.specs.Prefixes.{HasPutValues, key_prefix}
use Rattle.bdb_val.specs.Reads.{HaveTuples}
use Rattle.bdb_worlds.specs.Bounds.{EndsWithin}
use Rattle.bdb_worlds.specs.Holding.{HoldSome}
use Rattle.bdb_catalog.specs.Showing.{FindsState}
use Rattle.bdb_catalog.specs.Taking.{AreTuplesRead, statements_of, values_asked}
use Rattle.bdb_catalog.proofs.StoredFacts.{path_grammar, path_states, path_tuples}
use Rattle.bdb_catalog.proofs.TakingLemmas.{none_at_paths, none_with_values, one_read_more, read_are_taken, reads_are_few}
use Rattle.bdb_catalog.proofs.taking.taken.Given.{Over}
use Rattle.bdb_catalog.proofs.taking.taken.Goals as goal
use Rattle.bdb_catalog.proofs.taking.taken.Goals.{After-drop-prefix-in-Ok-statements_of}

pub state_of-requires-clause-states : goal.state_of-requires-clause-states
state_of-requires-clause-states g c =
    let kept = (g.K.Keeper.seen c.args.keeper.now).kept in
    subst (HoldSome kept) (sym c.as_slice.ensures.users) (path_states kept c.args.path.now c.requires.base)

pub stored_key_length-requires : goal.stored_key_length-requires
stored_key_length-requires g c = record {
  grammar = subst InGrammar (sym c.in-Ok.ensures.kept) (path_grammar (g.K.Keeper.seen c.args.keeper.now).kept c.args.path.now c.requires.base);
}

pub tuples_under-requires-clause-grammar : goal.tuples_under-requires-clause-grammar
tuples_under-requires-clause-grammar g c =
    subst InGrammar (sym (c.in-Ok-stored_key_length.ensures.read.kept ∙ c.in-Ok.ensures.kept)) (path_grammar (g.K.Keeper.seen c.args.keeper.now).kept c.args.path.now c.requires.base)

pub tuples_under-requires-clause-tuples : goal.tuples_under-requires-clause-tuples
tuples_under-requires-clause-tuples g c =
    subst HaveTuples (sym (c.in-Ok-stored_key_length.ensures.read.kept ∙ c.in-Ok.ensures.kept)) (path_tuples (g.K.Keeper.seen c.args.keeper.now).kept c.args.path.now c.requires.base)

pub returns-then-not-own-clause-taken : goal.returns-then-not-own-clause-taken
returns-then-not-own-clause-taken g c =
    let kept = (g.K.Keeper.seen c.args.keeper.now).kept in
    let path = c.args.path.now in
    let found = c.in-Ok.found in
    let state : FindsState kept path found = subst (λ p. FindsState kept p found) c.as_slice.ensures.users c.in-Ok.ensures.found in
    λ b has. c.new.ensures ∙ none_at_paths kept path found.0 found.1 state c.args.sign c.args.rel c.args.conds.now b has c.if-not-own.true

pub returns-in-Ok-false-clause-taken : goal.returns-in-Ok-false-clause-taken
returns-in-Ok-false-clause-taken g c =
    let kept = (g.K.Keeper.seen c.args.keeper.now).kept in
    let path = c.args.path.now in
    let s = c.args.sign in
    let rel = c.args.rel in
    let conds = c.args.conds.now in
    let found = c.in-Ok.found in
    let n = c.in-Ok-stored_key_length.n in
    let state : FindsState kept path found = subst (λ p. FindsState kept p found) c.as_slice.ensures.users c.in-Ok.ensures.found in
    let out : list_all is_written (values_asked c.as_slice-conds.result.now n) ≡ false =
    subst (λ b. HasPutValues b (c.new-prefix.result.items ++ (num_bytes found.0 ++ num_bytes rel ++ num_bytes n)) c.put_key_prefix.new.prefix.items (values_asked c.as_slice-conds.result.now n)) c.in-Ok-false.field-0-test
    c.in-Ok-false.ensures in
    let none : list_all is_written (values_asked conds n) ≡ false = subst (λ (cs : List Cond). list_all is_written (values_asked cs n) ≡ false) c.as_slice-conds.ensures out in
    λ b has. c.new-in-Ok-false.ensures ∙ none_with_values kept path found.0 found.1 state s rel conds b has n none

-- where the tuples are read, the state that was found is the path's
state : (g : Over) (c : After-drop-prefix-in-Ok-statements_of g) → FindsState (g.K.Keeper.seen c.args.keeper.now).kept c.args.path.now c.in-Ok.found
state g c = subst (λ p. FindsState (g.K.Keeper.seen c.args.keeper.now).kept p c.in-Ok.found) c.as_slice.ensures.users c.in-Ok.ensures.found

-- no row was changed before
same : (g : Over) (c : After-drop-prefix-in-Ok-statements_of g) → (g.K.Keeper.seen c.stored_key_length.new.keeper).kept ≡ (g.K.Keeper.seen c.args.keeper.now).kept
same g c = c.in-Ok-stored_key_length.ensures.read.kept ∙ c.in-Ok.ensures.kept

-- the length of the keys is that of the relation
long : (g : Over) (c : After-drop-prefix-in-Ok-statements_of g) → IsKeyLength (g.K.Keeper.seen c.args.keeper.now).kept c.args.rel c.in-Ok-stored_key_length.n
long g c = subst (λ t. IsKeyLength t c.args.rel c.in-Ok-stored_key_length.n) c.in-Ok.ensures.kept c.in-Ok-stored_key_length.ensures.length

-- the values asked for are plain, and what was read is what begins with them
asked : (g : Over) (c : After-drop-prefix-in-Ok-statements_of g) → ArePlain (values_asked c.args.conds.now c.in-Ok-stored_key_length.n)
    × AreTuplesRead (g.K.Keeper.seen c.stored_key_length.new.keeper) (g.K.Keeper.seen c.tuples_under.new.keeper)
    (key_prefix c.in-Ok-stored_key_length.n c.in-Ok.found.0 c.args.rel (values_asked c.args.conds.now c.in-Ok-stored_key_length.n)) c.args.sign c.in-Ok-tuples_under.tuples.items
asked g c =
    let mid = g.K.Keeper.seen c.stored_key_length.new.keeper in
    let new = g.K.Keeper.seen c.tuples_under.new.keeper in
    let s = c.args.sign in
    let rel = c.args.rel in
    let found = c.in-Ok.found in
    let n = c.in-Ok-stored_key_length.n in
    let us = c.in-Ok-tuples_under.tuples.items in
    let put : HasPutValues true (c.new-prefix.result.items ++ (num_bytes found.0 ++ num_bytes rel ++ num_bytes n)) c.put_key_prefix.new.prefix.items (values_asked c.as_slice-conds.result.now n) =
    subst (λ b. HasPutValues b (c.new-prefix.result.items ++ (num_bytes found.0 ++ num_bytes rel ++ num_bytes n)) c.put_key_prefix.new.prefix.items (values_asked c.as_slice-conds.result.now n)) c.in-Ok-true.field-0-test
    c.in-Ok-true.ensures in
    let begins : c.as_slice-2.result.now ≡ key_prefix n found.0 rel (values_asked c.as_slice-conds.result.now n) =
    c.as_slice-2.ensures.value ∙ put.0 ∙ ap (λ (x : List ℕ). (x ++ (num_bytes found.0 ++ num_bytes rel ++ num_bytes n)) ++ values_bytes (values_asked c.as_slice-conds.result.now n)) c.new-prefix.ensures.items in
    let read : AreTuplesRead mid new (key_prefix n found.0 rel (values_asked c.as_slice-conds.result.now n)) s us = subst (λ p. AreTuplesRead mid new p s us) begins c.in-Ok-tuples_under.ensures.tuples in (
      subst (λ (cs : List Cond). ArePlain (values_asked cs n)) c.as_slice-conds.ensures put.1,
      subst (λ (cs : List Cond). AreTuplesRead mid new (key_prefix n found.0 rel (values_asked cs n)) s us) c.as_slice-conds.ensures read,
    )

pub returns-in-Ok-statements_of-clause-taken : goal.returns-in-Ok-statements_of-clause-taken
returns-in-Ok-statements_of-clause-taken g c =
    let us = c.in-Ok-tuples_under.tuples.items in
    λ b has. c.in-Ok-statements_of.ensures ∙ ap (λ xs. statements_of c.args.path.now c.args.sign xs us) c.as_slice-conds.ensures
    ∙ read_are_taken (g.K.Keeper.seen c.args.keeper.now).kept c.args.path.now c.in-Ok.found.0 c.in-Ok.found.1 (state g c) c.args.sign c.args.rel c.args.conds.now b has c.if-not-own.false c.ranges.rel.fits
    c.in-Ok-stored_key_length.n (long g c) (g.K.Keeper.seen c.stored_key_length.new.keeper) (g.K.Keeper.seen c.tuples_under.new.keeper) (same g c) us (asked g c).0 (asked g c).1

pub returns-in-Ok-statements_of-clause-reads : goal.returns-in-Ok-statements_of-clause-reads
returns-in-Ok-statements_of-clause-reads g c =
    let old = g.K.Keeper.seen c.args.keeper.now in
    let mid = g.K.Keeper.seen c.stored_key_length.new.keeper in
    let path = c.args.path.now in
    let start = g.K.Keeper.seen c.state_of.new.keeper in
    let found_so : EndsWithin (length path + 1) old.reads start.reads = subst (λ p. EndsWithin (length p + 1) old.reads start.reads) c.as_slice.ensures.users c.in-Ok.ensures.reads in
    let first = one_read_more (length path) old.reads start.reads mid.reads found_so c.in-Ok-stored_key_length.ensures.reads in
    λ b has. reads_are_few old.kept path c.in-Ok.found.0 c.in-Ok.found.1 (state g c) c.args.sign c.args.rel c.args.conds.now b has c.if-not-own.false c.ranges.rel.fits
    c.in-Ok-stored_key_length.n (long g c) mid (g.K.Keeper.seen c.tuples_under.new.keeper) (same g c) c.in-Ok-tuples_under.tuples.items (asked g c).0 (asked g c).1
    old.reads c.in-Ok-tuples_under.ensures.read.counts.reads first
