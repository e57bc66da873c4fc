-- Why a call is refused, and what it answers, passed on to those who see only the recognisers.
pub use Rattle.answers.specs.Refusal.{refusal_number, Tried, tried, unknown_recogniser, zero_offset, bad_threshold, broken_bars, too_many_bars, short_sheet, far_look, bad_shape, bad_price, late_stamp, outside_hours, bad_layer, verdict_number, leaves}
unfoldable pub use Rattle.answers.specs.Refusal.{first_true, next_after, plain_verdict, feed_tried, feed_verdict, checked_tried, look_verdict}
pub use Rattle.answers.specs.Answer.{answer_to, with_ordinal, refusal_in, codes_in, answer_in, ordinal_in}
