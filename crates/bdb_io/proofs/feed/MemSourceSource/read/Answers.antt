use Rattle.std.proofs.Common.{length, sym, ap, ◌∙◌, rules}
use Rattle.bdb_io.proofs.Fronts.{front_and_rest, nothing_left}
use Rattle.bdb_io.proofs.feed.MemSourceSource.read.Goals as goal

pub returns-clause-bytes : goal.returns-clause-bytes
returns-clause-bytes c = (
  sym (ap (λ f. f.left) c.self.view_is)
      ∙ front_and_rest c.self.inside.bytes.items c.copy_from_slice.new.self _ c.self.inside.from c.min-count.result
      (search rules)
      (search rules),
  λ z room. nothing_left c.self.inside.bytes.items c.self.inside.from c.min-count.result c.self.inside.step (length c.args.buf.now)
      (search rules) (search rules) (search rules) (search rules) z,
)
