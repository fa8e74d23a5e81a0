use Rattle.std.proofs.Common.{Some, inl, inr, ap}
use Rattle.wbt_top_plain.proofs.top.plain_top.Goals as goal

pub forecast_top-requires : goal.forecast_top-requires
forecast_top-requires g c = ((c.in-Some-Forecast.ensures.forecast c.in-Some-Forecast.every).0 (ap Some c.in-Some-Forecast.field-0-is)).ticks

pub returns-in-Some-Replay-clause-words : goal.returns-in-Some-Replay-clause-words
returns-in-Some-Replay-clause-words g c = let asked = c.in-Some-Replay.ensures.replay.0 (ap Some c.in-Some-Replay.field-0-is) in record {
  bad_words = ((λ is. absurd (c.replay_top.ensures.words is)), (λ no. absurd (no (inl (inl asked)))));
  asked = λ other. inl (inl asked);
  spent = λ is. inl asked;
  bad_journal = λ line is. absurd (c.replay_top.ensures.no_audit.2 line is);
  unlawful = λ is. absurd (c.replay_top.ensures.no_audit.1 is);
  unsettled = λ is. absurd (c.replay_top.ensures.no_audit.0 is);
  no_disk = c.replay_top.ensures.no_disk;
}

pub returns-in-Some-Forecast-clause-words : goal.returns-in-Some-Forecast-clause-words
returns-in-Some-Forecast-clause-words g c = let asked = (c.in-Some-Forecast.ensures.forecast c.in-Some-Forecast.every).0 (ap Some c.in-Some-Forecast.field-0-is) in record {
  bad_words = ((λ is. absurd (c.forecast_top.ensures.words is)), (λ no. absurd (no (inl (inr (inr (c.in-Some-Forecast.every, asked)))))));
  asked = λ other. inl (inr (inr (c.in-Some-Forecast.every, asked)));
  spent = λ is. inr (c.in-Some-Forecast.every, asked);
  bad_journal = λ line is. absurd (c.forecast_top.ensures.no_audit.2 line is);
  unlawful = λ is. absurd (c.forecast_top.ensures.no_audit.1 is);
  unsettled = λ is. absurd (c.forecast_top.ensures.no_audit.0 is);
  no_disk = c.forecast_top.ensures.no_disk;
}

pub returns-in-Some-Check-clause-words : goal.returns-in-Some-Check-clause-words
returns-in-Some-Check-clause-words g c = let asked = c.in-Some-Check.ensures.check.0 (ap Some c.in-Some-Check.field-0-is) in record {
  bad_words = ((λ is. absurd (c.check_top.ensures.words is)), (λ no. absurd (no (inl (inr (inl asked))))));
  asked = λ other. inl (inr (inl asked));
  spent = λ is. absurd (c.check_top.ensures.not_spent is);
  bad_journal = λ line is. absurd (c.check_top.ensures.no_audit.2 line is);
  unlawful = λ is. absurd (c.check_top.ensures.no_audit.1 is);
  unsettled = λ is. absurd (c.check_top.ensures.no_audit.0 is);
  no_disk = c.check_top.ensures.no_disk;
}

pub returns-in-Some-Law-clause-words : goal.returns-in-Some-Law-clause-words
returns-in-Some-Law-clause-words g c = let asked = c.in-Some-Law.ensures.law.0 (ap Some c.in-Some-Law.field-0-is) in record {
  bad_words = ((λ is. absurd (c.law_top.ensures.words is)), (λ no. absurd (no (inr (inl asked)))));
  asked = λ other. inr (inl asked);
  spent = λ is. absurd (c.law_top.ensures.not_spent is);
  bad_journal = λ line is. absurd (c.law_top.ensures.no_audit.2 line is);
  unlawful = λ is. absurd (c.law_top.ensures.no_audit.1 is);
  unsettled = λ is. absurd (c.law_top.ensures.no_audit.0 is);
  no_disk = c.law_top.ensures.no_disk;
}

pub returns-in-Some-Audit-clause-words : goal.returns-in-Some-Audit-clause-words
returns-in-Some-Audit-clause-words g c = let asked = c.in-Some-Audit.ensures.audit.0 (ap Some c.in-Some-Audit.field-0-is) in record {
  bad_words = ((λ is. absurd (c.audit_top.ensures.words is)), (λ no. absurd (no (inr (inr asked)))));
  asked = λ other. inr (inr asked);
  spent = λ is. absurd (c.audit_top.ensures.not_spent is);
  bad_journal = λ line is. asked;
  unlawful = λ is. asked;
  unsettled = λ is. asked;
  no_disk = c.audit_top.ensures.no_disk;
}

pub returns-in-Some-Forecast-clause-untouched : goal.returns-in-Some-Forecast-clause-untouched
returns-in-Some-Forecast-clause-untouched g c = λ good fault spent unlawful unsettled memory.
    c.forecast_top.ensures.untouched good fault spent (memory (c.in-Some-Forecast.every, (c.in-Some-Forecast.ensures.forecast c.in-Some-Forecast.every).0 (ap Some c.in-Some-Forecast.field-0-is)))
