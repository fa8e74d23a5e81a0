use Rattle.std.proofs.Common.{◌≡◌, sym, ◌∙◌, arith, ap, subst, get_or}
use Rattle.wbt_writer.proofs.Common.{AllHavePagesLeft, Cpu, writer_of, Ended, others_stay, OnlyEnds, cpu_of, no_name}
use Rattle.std.proofs.lemmas.List.{get_or_read}
use Rattle.wbt_trace.specs.declared.writers.Writer.{Writer as Name}
use Rattle.wbt_writer.proofs.Counting.{ends_one, its_number, left_after}
use Rattle.wbt_writer.proofs.tasks.Tasks.end_writer.Goals as goal

own_name : (c : goal.After-count) → (get_or c.args.self.now.names.items c.args.number no_name).task ≡ c.args.task
own_name c = ap (λ (n : Name). n.task) (sym (get_or_read c.args.self.now.names.items c.args.number c.index.result.now c.requires.there c.index.ensures no_name)) ∙ c.if-index-task.false

pub returns-clause-next : goal.returns-clause-next
returns-clause-next c = rw c.count.ensures.cpu (its_number c.args.self.now.ratelimit_pages c.args.self.now.cap c.args.task c.args.number (cpu_of c.args.self.now) c.args.self.now.names.items no_name c.requires.there (own_name c))

pub returns-clause-only : goal.returns-clause-only
returns-clause-only c = subst (λ (cpu : Cpu). OnlyEnds (cpu_of c.args.self.now) cpu) (sym c.count.ensures.cpu) (ends_one c.args.self.now.ratelimit_pages c.args.self.now.cap (cpu_of c.args.self.now) c.args.number (omega (arith, c)))

pub returns-clause-left : goal.returns-clause-left
returns-clause-left c = λ some left. subst (λ (cpu : Cpu). AllHavePagesLeft c.args.self.now.cap cpu) (sym c.count.ensures.cpu)
    (left_after c.args.self.now.ratelimit_pages c.args.self.now.cap (cpu_of c.args.self.now) (Ended c.args.number) some tt left)

pub returns-clause-stay : goal.returns-clause-stay
returns-clause-stay c = λ n other. ap (λ (cpu : Cpu). writer_of cpu n) c.count.ensures.cpu
    ∙ others_stay c.args.self.now.ratelimit_pages c.args.self.now.cap (cpu_of c.args.self.now) (Ended c.args.number) n (λ e. other (ap (λ k. (get_or c.args.self.now.names.items k no_name).task) e ∙ own_name c))
