use Rattle.std.proofs.Common.{rules}
use Rattle.command.proofs.Says.{line_reads, read_once}
use Rattle.command.proofs.reader.Reader.command.Goals as goal

pub returns-clause-reads : goal.returns-clause-reads
returns-clause-reads c =
    line_reads _ _ _ c.read_line.result _ c.read_line.ensures.value c.read_line.ensures.after (λ d e. search rules) (λ e. search rules)

pub returns-clause-once : goal.returns-clause-once
returns-clause-once c = read_once
