-- Channels by their names.
use Rattle.std.specs.Prelude.{List, ℕ, Some}
use Rattle.xb_span.specs.declared.span.Span.{Span}
use Rattle.dslx_meaning.specs.Rules.CallRules.{ChannelSeen, channel_end_at, named_channel}
use Rattle.dslx_meaning.specs.Rules.TypeEnvs.{TypeEnv}

abbrev pub channel_by_name : Span → TypeEnv → List ℕ → ChannelSeen
channel_by_name span context name =
    record { judgement = named_channel span name (channel_end_at context name); channel_end = channel_end_at context name; name = Some name }
