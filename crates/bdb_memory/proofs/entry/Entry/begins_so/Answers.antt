use Rattle.std.proofs.Common.{◌∙◌, ap, sym, drop, List, ℕ, Option}
use Rattle.std.specs.Option.{option_map}
use Rattle.bdb_base.specs.Segments.{is_prefix}
use Rattle.bdb_memory.specs.Openings.{goes_on}
use Rattle.bdb_memory.proofs.OpeningLemmas.{rest_within}
use Rattle.bdb_memory.proofs.entry.Entry.begins_so.Goals as goal

pub returns-in-Some : goal.returns-in-Some
returns-in-Some c =
    let place = c.args.self.now.0 in
    c.rest_begins_with.ensures ∙ ap (λ (r : List ℕ). is_prefix c.in-Some.prefix.now r) (rest_within place _ _ (ap (λ (e : List ℕ × Option (List ℕ)). e.0) c.self.view_is) c.self.invariant)
    ∙ ap (λ o. goes_on (option_map (λ b. b.now) o) (drop 33 place)) (sym c.in-Some.is)
    ∙ c.behind.ensures place c.head.ensures c.requires

pub returns-in-None : goal.returns-in-None
returns-in-None c =
    let place = c.args.self.now.0 in
    ap (λ o. goes_on (option_map (λ b. b.now) o) (drop 33 place)) (sym c.in-None.is)
    ∙ c.behind.ensures place c.head.ensures c.requires
