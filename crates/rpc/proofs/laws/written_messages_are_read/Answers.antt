use Rattle.rpc.proofs.WrittenMessages.{request_text, request_value, notification_text, notification_value}
use Rattle.rpc.proofs.laws.written_messages_are_read.Goals as goal

pub returns-clause-requests : goal.returns-clause-requests
returns-clause-requests c = request_text

pub returns-clause-notifications : goal.returns-clause-notifications
returns-clause-notifications c = notification_text

pub returns-clause-request_values : goal.returns-clause-request_values
returns-clause-request_values c id call id_fits fit content is = request_value id call content is id_fits fit

pub returns-clause-notification_values : goal.returns-clause-notification_values
returns-clause-notification_values c language note value data_is fit content is = notification_value language note content value is data_is fit
