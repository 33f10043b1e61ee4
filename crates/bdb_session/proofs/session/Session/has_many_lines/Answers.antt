use Rattle.std.proofs.Common.{◌∙◌, List, length, ap}
use Rattle.bdb_base.specs.Bases.{user_names}
use Rattle.bdb_base.specs.declared.kinds.UserSlot.{UserSlot}
use Rattle.bdb_session.specs.Known.{Known}
use Rattle.bdb_session.proofs.LineLemmas.{few_live}
use Rattle.bdb_session.proofs.session.Session.has_many_lines.Goals as goal

pub lines_by-requires-clause-users : goal.lines_by-requires-clause-users
lines_by-requires-clause-users c =
    let live = c.live_count-users.ensures ∙ ap (λ (us : List UserSlot). length (user_names us)) c.as_slice.ensures ∙ ap (λ (x : Known). length (user_names x.catalog.users)) c.self.view_is in
    few_live c.args.self.now.catalog.users c.live_count-users.result live c.requires.catalog.few_users
