mod Scheduled
