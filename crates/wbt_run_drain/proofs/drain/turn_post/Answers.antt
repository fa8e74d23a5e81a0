use Rattle.std.proofs.Common.{List, refl, sym}
use Rattle.wbt_run_worker.specs.declared.side.Post.{Post}
use Rattle.wbt_run_worker.proofs.Common.{Desk}
use Rattle.wbt_run_drain.proofs.drain.turn_post.Goals as goal

pub returns : goal.returns
returns g c =
    let post = c.index_mut-post.result.now in
    record {
      turned = record {
        was = post;
        is = record { number = post.number; flusher = c.turn.new.self; stand = c.stand_of-post.result };
        turn = c.turn.result;
        was_there = sym c.index_mut-post.ensures.value;
        posts = refl {A = List (Post g.row.D.Denot)};
        writers = refl {A = Desk};
        plan = c.turn.ensures.plan;
        later = c.turn.ensures.later;
        counted = c.turn.ensures.counted;
        answers = c.turn.ensures.answers;
        one = record {
          took = c.turn.ensures.took;
          halts = c.turn.ensures.halts;
          fails = c.turn.ensures.fails;
          waits = c.turn.ensures.waits;
          done = c.turn.ensures.done;
        };
        steps = c.turn.ensures.kinds;
        answer_is = c.job_of-job.ensures;
        stands = c.stand_of-post.ensures;
        ends = c.end_of-side.ensures;
      };
    }
