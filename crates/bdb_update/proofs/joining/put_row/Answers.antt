use Rattle.std.proofs.Common.{◌≡◌, ◌∙◌, ◌∷◌, ℕ, List, true, ap, rules}
use Rattle.std.specs.FinMap as tables
use Rattle.bdb_key.specs.Rows.{mark_bytes}
use Rattle.bdb_tables.specs.InUse.{IsValKey, val_bytes, val_codec}
use Rattle.bdb_tables.proofs.Held.{put_kept}
use Rattle.bdb_update.specs.Joining.{key_made, row_put}
use Rattle.bdb_update.proofs.joining.put_row.Goals as goal

pub returns-in-Ok-put_explicit-clause-grammar : goal.returns-in-Ok-put_explicit-clause-grammar
returns-in-Ok-put_explicit-clause-grammar g c =
    let x = c.args.stmt.now in
    let key = c.args.key.now in
    let old = (g.K.Keeper.seen c.args.keeper.now).kept in
    let new = (g.K.Keeper.seen c.put_explicit.new.keeper).kept in
    let fits : IsValKey (key_made x c.args.wid c.args.tid key) = search rules in
    let put : new ≡ row_put old x c.args.wid c.args.tid key =
    c.in-Ok-put_explicit.ensures.put
    ∙ ap (λ (k : List ℕ). tables.insert old (11 ∷ k) (mark_bytes (x.sign, true)))
    (c.deref.ensures.value ∙ c.in-Ok.ensures.bytes ∙ ap (λ (r : ℕ). val_bytes (c.args.wid, r, key, c.args.tid)) c.rel_of.ensures) in
    put_kept val_codec (λ _ _ h. h) old new (key_made x c.args.wid c.args.tid key) (x.sign, true) fits tt put
