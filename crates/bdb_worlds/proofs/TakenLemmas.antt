-- What was read before anything is written.
use Rattle.std.proofs.Common.{◌≡◌, ℕ, List, subst, Some}
use Rattle.bdb_keep.specs.Tables.{Tables}
use Rattle.bdb_tables.specs.Codec.{HasAt}
use Rattle.bdb_tables.specs.InUse.{edge_codec}
use Rattle.bdb_worlds.specs.Finds.{FindsMovers}
use Rattle.bdb_worlds.specs.Growth.{IsTaken}
use Rattle.bdb_worlds.specs.Owns.{FindsEdges}

-- reads of tables that stay are reads of the first ones
pub taken_is : (t u v : Tables) (start uid from : ℕ) (sources met : List ℕ) (own : List (ℕ × ℕ)) → u ≡ t → v ≡ t → HasAt edge_codec t (start, uid) (Some from)
    → FindsMovers u start uid from sources met → FindsEdges v from uid own → IsTaken t start uid from sources met own
taken_is t u v start uid from sources met own e f has movers edges = record {
  edge = has;
  movers = subst (λ x. FindsMovers x start uid from sources met) e movers;
  edges = subst (λ x. FindsEdges x from uid own) f edges;
}
